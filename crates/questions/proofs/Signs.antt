-- The leaps of a sign among the first ones: on a day on which just those are in effect, they tell DTAI.
-- Assumes nothing.
use Rattle.std.proofs.Common.{◌≡◌, ℕ, zero, suc, ◌+◌, ◌<◌, true, List, [], ◌∷◌, ◌++◌, length, get_or, take, refl, ap, ◌∙◌, ap₂, le_of_suc-le-suc, add-one, arith, take-suc, le-leb}
use mathlib.Core.Bool.{and-true}
use lib.IntN.{sub_ℕ}
use lib.Seq.{take-nil}
use Rattle.calendar.specs.Calendar.{month_start}
use Rattle.schedule.specs.declared.Sign.{Sign}
use Rattle.schedule.specs.declared.Sign.TheVariants.{Positive, Negative}
use Rattle.schedule.specs.declared.Leap.{Leap}
use Rattle.schedule.specs.Schedule.{Schedule, no_leap, gaps_fit, well_formed}
use Rattle.schedule.specs.Extends.{same_sign}
use Rattle.schedule.proofs.Gaps.{later, parts}
use Rattle.clock.specs.Days.{first_dtai, dtai}
use Rattle.clock.proofs.Tally.{count, tally}
use Rattle.clock.proofs.Tallied.{dtai_tallied}
use Rattle.clock.proofs.Leaps.{not_yet, tally_none}
use Rattle.clock.proofs.Placed.{Placed}
use Rattle.questions.specs.Private.{one_of, of_sign}

pub of_sign_next : (sign : Sign) (ls : List Leap) (n : ℕ) → n < length ls → of_sign sign (take (n + 1) ls) ≡ of_sign sign (take n ls) + one_of sign (get_or ls n no_leap).sign
of_sign_next sign ls n h = ap (of_sign sign) step ∙ last (take n ls) (get_or ls n no_leap)
  where
    step : take (n + 1) ls ≡ take n ls ++ (get_or ls n no_leap ∷ [])
    step = rw (add-one n) (take-suc ls n no_leap h)

    last : (xs : List Leap) (l : Leap) → of_sign sign (xs ++ (l ∷ [])) ≡ of_sign sign xs + one_of sign l.sign
    last [] l = omega arith
    last (x ∷ xs) l = omega (arith, last xs l)

pub one_sign : (sign : Sign) → one_of Positive sign + one_of Negative sign ≡ 1
one_sign Positive = refl
one_sign Negative = refl

-- every leap is of one sign
pub both_signs : (ls : List Leap) → of_sign Positive ls + of_sign Negative ls ≡ length ls
both_signs [] = refl
both_signs (l ∷ ls) = omega (arith, one_sign l.sign, both_signs ls)

tally_placed : (sign : Sign) (ls : List Leap) (from expiry day n : ℕ) → gaps_fit from ls expiry ≡ true → Placed ls day n → tally sign ls day ≡ of_sign sign (take n ls)
tally_placed sign [] from expiry day n f p = rw (take-nil {A = Leap} n)
tally_placed sign (l ∷ ls) from expiry day zero f p =
    let yet = p.not_begun (omega arith) in
    omega (arith, not_yet sign l day yet, tally_none sign l.month ls expiry day (later from l ls expiry f) (omega arith))
tally_placed sign (l ∷ ls) from expiry day (suc n) f p =
    let rest : Placed ls day n =
    record { room = le_of_suc-le-suc p.room; begun = λ i h. p.begun (suc i) (omega arith); not_begun = λ h. p.not_begun (omega arith) } in
    rw (le-leb (month_start l.month) day (p.begun 0 (omega arith)), and-true (same_sign sign l.sign))
    (ap (λ m. count (same_sign sign l.sign) + m) (tally_placed sign ls l.month expiry day n (later from l ls expiry f) rest))

-- the leaps in effect on a day tell its DTAI
pub dtai_placed : (s : Schedule) → well_formed s ≡ true → {day n : ℕ} → Placed s.leaps day n
    → dtai s day ≡ sub_ℕ (first_dtai + of_sign Positive (take n s.leaps)) (of_sign Negative (take n s.leaps))
dtai_placed s w {day} {n} here = dtai_tallied s day ∙ ap₂ (λ up down. sub_ℕ (first_dtai + up) down) (counted Positive) (counted Negative)
  where
    counted : (sign : Sign) → tally sign s.leaps day ≡ of_sign sign (take n s.leaps)
    counted sign = tally_placed sign s.leaps 0 s.expiry day n (parts s w).gaps here
