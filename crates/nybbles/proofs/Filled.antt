-- The written codes of a list, gap by gap: what holds in the loop of `plain`.
-- Assumes nothing.
use mathlib.Core.Path.{◌≡◌, refl, sym, ap, ◌∙◌}
use mathlib.Core.Bool.{true}
use mathlib.Core.List.{List, [], ◌∷◌, ◌++◌, append_assoc}
use Prim.Native.Nat.{ℕ, ◌+◌, ◌-◌, ◌≤◌, ◌<◌}
use native.Mathlib.Omega.{arith}
use lib.ListN.{length, length-append}
use Rattle.schedule.specs.declared.Sign.{Sign}
use Rattle.schedule.specs.declared.Sign.TheVariants.{Positive, Negative}
use Rattle.schedule.specs.declared.Leap.{Leap}
use Rattle.schedule.specs.Schedule.{Schedule, gap_fits, expiry_month, leaves_gap, well_formed}
use Rattle.schedule.proofs.Gaps.{fits_lt, fits_le, parts}
use Rattle.schedule.proofs.Rounded.{gaps_to, first_to, later_to, rounded_gaps}
use Rattle.calendar.proofs.Laws.{month_most}
use Rattle.nybbles.specs.Codes.{np_expiry, np_of}
use Rattle.nybbles.specs.Write.{gap_codes, codes_from, plain_codes}
use Rattle.nybbles.proofs.Stored.{list_few}

pub np_small : (k : Sign) → np_of k < 4
np_small Positive = omega arith
np_small Negative = omega arith

-- what `push_gap` asks
abbrev Asked : List (List ℕ) → ℕ → ℕ → Type 0
Asked codes np gap = (0 < gap) × (gap ≤ 999) × (length codes + length (gap_codes np gap) ≤ 390)

-- the gaps up to the leaps left and the expiry, after the codes so far, make the whole
pub record Fills (s : Schedule) (codes : List (List ℕ)) (last : ℕ) (ls : List Leap) : Type 0 where
  pub left : gaps_to last ls (expiry_month s) ≡ true
  pub whole : codes ++ codes_from last ls (expiry_month s) ≡ plain_codes s

module _ (s : Schedule) (w : well_formed s ≡ true) (g : leaves_gap s ≡ true) where
  pub fills_start : Fills s [] 0 s.leaps
  fills_start = record { left = rounded_gaps s w g; whole = refl }

  module _ {codes : List (List ℕ)} {last : ℕ} where
    all_few : {ls : List Leap} → Fills s codes last ls → length codes + length (codes_from last ls (expiry_month s)) ≤ 390
    all_few f =
        let few = list_few s.leaps 0 (expiry_month s) (rounded_gaps s w g) in
        omega (arith, few, month_most s.expiry, (parts s w).room, simp length-append at (ap length f.whole))

    -- a leap
    module _ {l : Leap} {ls : List Leap} (f : Fills s codes last (l ∷ ls)) where
      abbrev rest : List (List ℕ)
      rest = codes_from l.month ls (expiry_month s)

      abbrev here : List (List ℕ)
      here = gap_codes (np_of l.sign) (l.month - last)

      next_fits : gap_fits last l.month ≡ true
      next_fits = first_to last l ls (expiry_month s) f.left

      pub next_above : last < l.month
      next_above = fits_lt last l.month next_fits

      next_codes : codes_from last (l ∷ ls) (expiry_month s) ≡ here ++ rest
      unfolding codes_from
      next_codes = refl

      pub next_asked : Asked codes (np_of l.sign) (l.month - last)
      next_asked =
          let a = next_above in
          (omega arith, fits_le last l.month next_fits, omega (arith, all_few f, simp length-append at (ap length next_codes)))

      pub fills_step : Fills s (codes ++ here) l.month ls
      fills_step = record {
        left = later_to last l ls (expiry_month s) f.left;
        whole = append_assoc codes here rest ∙ (ap (λ (cs : List (List ℕ)). codes ++ cs) (sym next_codes) ∙ f.whole);
      }

    -- the expiry
    module _ (f : Fills s codes last []) where
      last_codes : codes_from last [] (expiry_month s) ≡ gap_codes np_expiry (expiry_month s - last)
      unfolding codes_from
      last_codes = refl

      last_fits : gap_fits last (expiry_month s) ≡ true
      unfolding gaps_to
      last_fits = f.left

      pub last_above : last < expiry_month s
      last_above = fits_lt last (expiry_month s) last_fits

      pub last_asked : Asked codes np_expiry (expiry_month s - last)
      last_asked =
          let a = last_above in
          (omega arith, fits_le last (expiry_month s) last_fits, omega (arith, all_few f, ap length last_codes))

      pub fills_end : codes ++ gap_codes np_expiry (expiry_month s - last) ≡ plain_codes s
      fills_end = ap (λ (cs : List (List ℕ)). codes ++ cs) (sym last_codes) ∙ f.whole
