-- What a stretch shows holds on each of its days. Assumes nothing.
use mathlib.Core.Bool.{true}
use mathlib.Core.Path.{◌≡◌, refl, sym, ap, ◌∙◌}
use mathlib.Core.List.{List, [], ◌∷◌, ◌++◌, append_assoc}
use Prim.Native.Nat.{ℕ, ◌+◌, ◌≤◌, ◌<◌}
use native.Mathlib.Omega.{arith}
use borrow.Author.Tests.{le-leb, lt-leb}
use Rattle.refusals.specs.Refusals.{before1972, not_known, not_well_formed}
use Rattle.calendar.specs.Calendar.{first_day, month_start}
use Rattle.calendar.proofs.Laws.{start_zero, start_from, start_le, start_lt}
use Rattle.schedule.specs.declared.Sign.{Sign}
use Rattle.schedule.specs.declared.Sign.TheVariants.{Positive, Negative}
use Rattle.schedule.specs.declared.Leap.{Leap}
use Rattle.schedule.specs.Schedule.{Schedule, gaps_fit, well_formed}
use Rattle.schedule.proofs.Gaps.{fits_lt, first, later, before_end, parts}
use Rattle.clock.specs.Days.{dtai}
use Rattle.clock.proofs.Tally.{tally}
use Rattle.clock.proofs.Tallied.{dtai_tallied}
use Rattle.clock.specs.Known.{last_day}
use Rattle.refusals.specs.Answer.{given, refused}
use Rattle.clock.specs.Question.{dtai_on}
use Rattle.refusals.proofs.Checks.{pass}
use Rattle.clock.proofs.Leaps.{not_yet, tally_none}

-- every day of the stretch from a day to another has its DTAI
abbrev pub SameDtai : Schedule → ℕ → ℕ → Type 0
SameDtai s from to = (day : ℕ) → from ≤ day → day < to → dtai_on s day ≡ given (dtai s from)

-- and so in each stretch from a day on, as `stretches` has them
abbrev pub EachSame : Schedule → ℕ → List Leap → Type 0
EachSame s from [] = SameDtai s from s.expiry
EachSame s from (l ∷ ls) = SameDtai s from (month_start l.month) × EachSame s (month_start l.month) ls

-- every leap is at a month or before it
abbrev Until : ℕ → List Leap → Type 0
Until m [] = Unit {0}
Until m (l ∷ ls) = (l.month ≤ m) × Until m ls

until_later : {m n : ℕ} (ls : List Leap) → m ≤ n → Until m ls → Until n ls
until_later [] h u = tt
until_later (l ∷ ls) h u = (omega (arith, u.0), until_later ls h u.1)

until_more : {m : ℕ} (ls : List Leap) (l : Leap) → Until m ls → l.month ≤ m → Until m (ls ++ (l ∷ []))
until_more [] l u h = (h, tt)
until_more (k ∷ ls) l u h = (u.0, until_more ls l u.1 h)

module _ (sign : Sign) where
  tally_append : (xs ys : List Leap) (day : ℕ) → tally sign (xs ++ ys) day ≡ tally sign xs day + tally sign ys day
  tally_append [] ys day = omega arith
  tally_append (x ∷ xs) ys day = omega (arith, tally_append xs ys day)

  -- leaps up to a month are in effect from its start on
  in_effect_lem : (ls : List Leap) (m day : ℕ) → Until m ls → month_start m ≤ day → tally sign ls day ≡ tally sign ls (month_start m)
  in_effect_lem [] m day u h = refl
  in_effect_lem (l ∷ ls) m day u h =
      let a = start_le u.0 in
      rw (le-leb (month_start l.month) day (omega arith), le-leb (month_start l.month) (month_start m) (omega arith), in_effect_lem ls m day u.1 h)

  -- and those after it not before the first of them is
  not_in_effect : (l : Leap) (ls : List Leap) (from expiry day : ℕ) → gaps_fit from (l ∷ ls) expiry ≡ true → day < month_start l.month → tally sign (l ∷ ls) day ≡ 0
  not_in_effect l ls from expiry day g h =
      omega (arith, not_yet sign l day h, tally_none sign l.month ls expiry day (later from l ls expiry g) (omega arith))

  -- so the tally stays what it is where none takes effect
  stays : (done rest : List Leap) (from day : ℕ) → Until from done → month_start from ≤ day → tally sign rest day ≡ 0 → tally sign rest (month_start from) ≡ 0
      → tally sign (done ++ rest) day ≡ tally sign (done ++ rest) (month_start from)
  stays done rest from day u h n k =
      omega (arith, tally_append done rest day, tally_append done rest (month_start from), in_effect_lem done from day u h, n, k)

module _ (s : Schedule) (w : well_formed s ≡ true) where
  -- a day before the expiry has a DTAI
  known : (day : ℕ) → first_day ≤ day → day < s.expiry → dtai_on s day ≡ given (dtai s day)
  known day a b = pass not_well_formed w ∙ pass before1972 (le-leb first_day day a) ∙ pass not_known (le-leb day (last_day s) (omega arith))

  same : (done rest : List Leap) (from to : ℕ) → s.leaps ≡ done ++ rest → Until from done → to ≤ s.expiry
      → ((sign : Sign) (day : ℕ) → day < to → tally sign rest day ≡ 0) → month_start from < to → SameDtai s (month_start from) to
  same done rest from to e u h none f day a b =
      let kept : (sign : Sign) → tally sign s.leaps day ≡ tally sign s.leaps (month_start from)
      = λ sign. rw e (stays sign done rest from day u a (none sign day b) (none sign (month_start from) (omega arith))) in
      known day (omega (arith, start_from from)) (omega arith) ∙ ap given (rw (dtai_tallied s day, dtai_tallied s (month_start from), kept Positive, kept Negative))

  go : (done ls : List Leap) (from : ℕ) → s.leaps ≡ done ++ ls → Until from done → gaps_fit from ls s.expiry ≡ true → EachSame s (month_start from) ls
  go done [] from e u g = same done [] from s.expiry e u (omega arith) (λ sign day h. refl) (before_end [] from s.expiry g)
  go done (l ∷ ls) from e u g =
      let m = l.month in
      let f : from < m = fits_lt from m (first from l ls s.expiry g) in
      let rest = later from l ls s.expiry g in (
        same done (l ∷ ls) from (month_start m) e u (omega (arith, before_end ls m s.expiry rest)) (λ sign day h. not_in_effect sign l ls from s.expiry day g h) (start_lt f),
        go (done ++ (l ∷ [])) ls m (e ∙ sym (append_assoc done (l ∷ []) ls)) (until_more done l (until_later done (omega arith) u) (omega arith)) rest,
      )

  -- every day of each stretch has the DTAI that is shown for it
  pub every_day : EachSame s first_day s.leaps
  every_day = rw start_zero at (go [] s.leaps 0 refl tt (parts s w).gaps)

  -- and from the day on which DTAI is shown to be unknown there is none
  pub then_unknown : (day : ℕ) → s.expiry ≤ day → dtai_on s day ≡ refused not_known
  then_unknown day h =
      let b = before_end s.leaps 0 s.expiry (parts s w).gaps in
      pass not_well_formed w ∙ pass before1972 (le-leb first_day day (omega (arith, start_zero))) ∙ rw (lt-leb day (last_day s) (omega (arith, start_zero)))
