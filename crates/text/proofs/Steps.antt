-- The text of a schedule, gap by gap: what holds in the loops that count it and that put it.
-- Assumes nothing.
use mathlib.Core.Path.{◌≡◌, refl, sym, ap, ◌∙◌}
use mathlib.Core.Bool.{true}
use mathlib.Core.List.{List, [], ◌∷◌, ◌++◌, append_assoc}
use Prim.Native.Nat.{ℕ, ◌+◌, ◌-◌, ◌≤◌, ◌<◌}
use native.Mathlib.Omega.{arith}
use lib.ListN.{length, length-append}
use lib.Seq.{sets}
use Rattle.ascii.specs.declared.output.Output.{Output}
use Rattle.ascii.specs.Output.{Puts}
use Rattle.ascii.proofs.Putting.{nothing, both, two_puts}
use Rattle.schedule.specs.declared.Leap.{Leap}
use Rattle.schedule.specs.Schedule.{Schedule, gap_fits, expiry_month, leaves_gap, well_formed}
use Rattle.schedule.proofs.Gaps.{fits_lt, fits_le}
use Rattle.schedule.proofs.Rounded.{gaps_to, first_to, later_to, rounded_gaps}
use Rattle.text.specs.Bytes.{sign_byte, end_byte}
use Rattle.text.specs.Write.{digits, marked, text_from, text_of}
use Rattle.text.proofs.Longest.{at_most_752}

-- the gaps up to the leaps left and the expiry, after the text so far, make the whole
pub record Standing (s : Schedule) (text : List ℕ) (last : ℕ) (ls : List Leap) : Type 0 where
  pub gaps : gaps_to last ls (expiry_month s) ≡ true
  pub whole : text ++ text_from last ls (expiry_month s) ≡ text_of s

-- an output with room for a text that is put from its start: where it ends, and what the bytes lent for it then hold
pub all_put : (first out : Output) {text before after : List ℕ} → Puts first out text → first.at ≡ 0 → first.bytes.now ≡ before → after ≡ out.bytes.now
    → length text ≤ length before → (out.at ≡ length text) × (after ≡ sets before 0 text)
all_put first out p z e f h = (omega (arith, p.next, z, h, ap length e), f ∙ (p.stored ∙ rw (z, e)))

-- so many bytes are counted so far
pub record Counted (s : Schedule) (n last : ℕ) (ls : List Leap) : Type 0 where
  pub text : List ℕ
  pub standing : Standing s text last ls
  pub count : n ≡ length text

-- the text so far is put
pub record PutSoFar (s : Schedule) (first out : Output) (last : ℕ) (ls : List Leap) : Type 0 where
  pub text : List ℕ
  pub standing : Standing s text last ls
  pub puts : Puts first out text

module _ (s : Schedule) (w : well_formed s ≡ true) (g : leaves_gap s ≡ true) where
  pub start : Standing s [] 0 s.leaps
  unfolding text_of
  start = record { gaps = rounded_gaps s w g; whole = refl }

  pub none_counted : Counted s 0 0 s.leaps
  none_counted = record { text = []; standing = start; count = refl }

  pub none_put : (out : Output) → PutSoFar s out out 0 s.leaps
  none_put out = record { text = []; standing = start; puts = nothing out }

module _ {s : Schedule} {text : List ℕ} {last : ℕ} where
  few : well_formed s ≡ true → {ls : List Leap} → Standing s text last ls → length text + length (text_from last ls (expiry_month s)) ≤ 752
  few w st = omega (arith, at_most_752 s w, simp length-append at (ap length st.whole))

  -- at a leap
  module _ {l : Leap} {ls : List Leap} (st : Standing s text last (l ∷ ls)) where
    abbrev here : List ℕ
    here = marked (l.month - last) (sign_byte l.sign)

    fits : gap_fits last l.month ≡ true
    fits = first_to last l ls (expiry_month s) st.gaps

    pub next_above : last < l.month
    next_above = fits_lt last l.month fits

    pub next_fits : l.month - last ≤ 999
    next_fits = fits_le last l.month fits

    next_text : text_from last (l ∷ ls) (expiry_month s) ≡ here ++ text_from l.month ls (expiry_month s)
    unfolding text_from
    next_text = refl

    next : Standing s (text ++ here) l.month ls
    next = record {
      gaps = later_to last l ls (expiry_month s) st.gaps;
      whole = append_assoc text here (text_from l.month ls (expiry_month s)) ∙ (ap (λ (bs : List ℕ). text ++ bs) (sym next_text) ∙ st.whole);
    }

    pub next_counted : well_formed s ≡ true → (n k : ℕ) → n ≡ length text → k ≡ length (digits (l.month - last)) + 1 → (n + k ≤ 752) × Counted s (n + k) l.month ls
    next_counted w n k e f =
        let size : length here ≡ length (digits (l.month - last)) + 1 = simp length-append in
        let room = ap length next_text ∙ length-append here (text_from l.month ls (expiry_month s)) in
        (omega (arith, e, f, size, few w st, room), record { text = text ++ here; standing = next; count = omega (arith, e, f, size, length-append text here) })

    pub next_put : {first out out' : Output} → Puts first out text → Puts out out' here → PutSoFar s first out' l.month ls
    next_put p q = record { text = text ++ here; standing = next; puts = both p q }

  -- at the expiry
  module _ (st : Standing s text last []) where
    end_text : text_from last [] (expiry_month s) ≡ marked (expiry_month s - last) end_byte
    unfolding text_from
    end_text = refl

    fits_end : gap_fits last (expiry_month s) ≡ true
    unfolding gaps_to
    fits_end = st.gaps

    pub end_above : last < expiry_month s
    end_above = fits_lt last (expiry_month s) fits_end

    pub end_fits : expiry_month s - last ≤ 999
    end_fits = fits_le last (expiry_month s) fits_end

    end : text ++ marked (expiry_month s - last) end_byte ≡ text_of s
    end = ap (λ (bs : List ℕ). text ++ bs) (sym end_text) ∙ st.whole

    pub end_counted : well_formed s ≡ true → (n k : ℕ) → n ≡ length text → k ≡ length (digits (expiry_month s - last)) + 1 → (n + k ≤ 752) × (n + k ≡ length (text_of s))
    end_counted w n k e f =
        let here = marked (expiry_month s - last) end_byte in
        let size : length here ≡ length (digits (expiry_month s - last)) + 1 = simp length-append in
        (omega (arith, e, f, size, few w st, ap length end_text), omega (arith, e, f, size, ap length end, length-append text here))

    pub end_put : {first out out' : Output} → Puts first out text → Puts out out' (marked (expiry_month s - last) end_byte) → Puts first out' (text_of s)
    end_put p q = two_puts p q (sym end)
