-- What a list of leaps does from day to day, and what its leaps from some month on do not change.
-- Assumes nothing.
use mathlib.Core.Bool.{Bool, true, false, cond, ◌&&◌, and-false}
use mathlib.Core.List.{List, [], ◌∷◌}
use mathlib.Core.Path.{◌≡◌, refl}
use Prim.Native.Nat.{ℕ, ◌+◌, ◌≤◌, ◌<◌}
use native.Mathlib.Decide.{dec_lt}
use native.Mathlib.Omega.{arith}
use lib.Dec.{leb, eqb}
use borrow.Author.Tests.{eqb-true, eqb-false, le-leb, lt-leb, ne_eqb, not-true}
use Rattle.calendar.specs.Calendar.{month_start, starts_month}
use Rattle.calendar.proofs.Laws.{start_lt, no_start}
use Rattle.schedule.specs.declared.Sign.{Sign}
use Rattle.schedule.specs.declared.Sign.TheVariants.{Positive, Negative}
use Rattle.schedule.specs.declared.Leap.{Leap}
use Rattle.schedule.specs.Schedule.{end_day, is_expired, gaps_fit}
use Rattle.schedule.specs.Extends.{same_sign, below}
use Rattle.schedule.proofs.Gaps.{fits_lt, first, later, before_end}
use Rattle.schedule.proofs.WordLayout.{within}
use Rattle.schedule.proofs.Expired.{expired_from}
use Rattle.clock.specs.declared.Ending.{Ending}
use Rattle.clock.specs.declared.Ending.TheVariants.{Ordinary, Inserted, Deleted}
use Rattle.clock.specs.Known.{fully_known}
use Rattle.clock.specs.Days.{ending_of, ending_before}
use Rattle.clock.proofs.Tally.{count, tally}

-- a leap that takes effect after the day is not counted
pub not_yet : (sign : Sign) (l : Leap) (day : ℕ) → day < month_start l.month → count (same_sign sign l.sign && leb (month_start l.month) day) ≡ 0
not_yet sign l day h = rw (lt-leb (month_start l.month) day h, and-false (same_sign sign l.sign))

-- ---- the leaps from an expiry on change nothing before it

pub tally_below : (sign : Sign) (expiry day : ℕ) (ls : List Leap) → day < expiry → tally sign (below expiry ls) day ≡ tally sign ls day
unfolding below
tally_below sign expiry day [] h = refl
tally_below sign expiry day (l ∷ ls) h = go (is_expired expiry l.month) refl (tally_below sign expiry day ls h)
  where
    go : (b : Bool) → is_expired expiry l.month ≡ b → tally sign (below expiry ls) day ≡ tally sign ls day
        → tally sign (cond b (below expiry ls) (l ∷ below expiry ls)) day ≡ tally sign (l ∷ ls) day
    go true p ih = omega (arith, not_yet sign l day (omega (arith, expired_from expiry l.month p)))
    go false p ih = omega arith

pub ending_below : (expiry next : ℕ) (ls : List Leap) → next < expiry → ending_before (below expiry ls) next ≡ ending_before ls next
unfolding below
ending_below expiry next [] h = refl
ending_below expiry next (l ∷ ls) h = go (is_expired expiry l.month) refl (ending_below expiry next ls h)
  where
    go : (b : Bool) → is_expired expiry l.month ≡ b → ending_before (below expiry ls) next ≡ ending_before ls next
        → ending_before (cond b (below expiry ls) (l ∷ below expiry ls)) next ≡ ending_before (l ∷ ls) next
    go true p ih =
        let late = expired_from expiry l.month p in
        rw (ne_eqb (month_start l.month) next (λ q. omega arith)) ih
    go false p ih = rw ih

-- a list has no leap on its expiry day
pub ending_none : (from : ℕ) (ls : List Leap) (expiry : ℕ) → gaps_fit from ls expiry ≡ true → ending_before ls expiry ≡ Ordinary
ending_none from [] expiry h = refl
ending_none from (l ∷ ls) expiry h =
    let rest = later from l ls expiry h in
    rw (ne_eqb (month_start l.month) expiry (λ q. omega (arith, before_end ls l.month expiry rest))) (ending_none l.month ls expiry rest)

-- and none on a day that isn't the first of a month
pub ending_within : (day from : ℕ) (ls : List Leap) (expiry : ℕ) → starts_month day ≡ false → gaps_fit from ls expiry ≡ true → expiry ≤ end_day
    → ending_before ls day ≡ Ordinary
ending_within day from [] expiry m h i = refl
ending_within day from (l ∷ ls) expiry m h i =
    let rest = later from l ls expiry h in
    let small : l.month ≤ 2400 = within l.month (omega (arith, before_end ls l.month expiry rest)) in
    rw (ne_eqb (month_start l.month) day (no_start m l.month small)) (ending_within day l.month ls expiry m rest i)

-- so none at the end of a last day that is fully known, however the list goes on
next_inside : (last : ℕ) → fully_known last ≡ true → starts_month (last + 1) ≡ false
unfolding fully_known
next_inside last k = not-true (starts_month (last + 1)) k

pub ending_known : (last from : ℕ) (ls : List Leap) (expiry : ℕ) → fully_known last ≡ true → gaps_fit from ls expiry ≡ true → expiry ≤ end_day
    → ending_before ls (last + 1) ≡ Ordinary
ending_known last from ls expiry k h i = ending_within (last + 1) from ls expiry (next_inside last k) h i

-- ---- from day to day, where the months rise

-- no leap is in effect yet by the first day of the month before them all
pub tally_none : (sign : Sign) (from : ℕ) (ls : List Leap) (expiry day : ℕ) → gaps_fit from ls expiry ≡ true → day ≤ month_start from → tally sign ls day ≡ 0
tally_none sign from [] expiry day h i = refl
tally_none sign from (l ∷ ls) expiry day h i =
    let rise = start_lt (fits_lt from l.month (first from l ls expiry h)) in
    omega (arith, not_yet sign l day (omega arith), tally_none sign l.month ls expiry day (later from l ls expiry h) (omega arith))

-- what a day's end adds to the tally of a sign
abbrev pub part : Sign → Ending → ℕ
part Positive Ordinary = 0
part Positive Inserted = 1
part Positive Deleted = 0
part Negative Ordinary = 0
part Negative Inserted = 0
part Negative Deleted = 1

part_ending : (sign own : Sign) → part sign (ending_of own) ≡ count (same_sign sign own && true)
part_ending Positive Positive = refl
part_ending Positive Negative = refl
part_ending Negative Positive = refl
part_ending Negative Negative = refl

leb_next : (f day : ℕ) → eqb f (day + 1) ≡ false → leb f (day + 1) ≡ leb f day
leb_next f day h =
    let ne = eqb-false f (day + 1) h in
    elim (dec_lt day f) [
      | yes l ↦ rw (lt-leb f day l, lt-leb f (day + 1) (omega arith))
      | no l ↦ rw (le-leb f day (omega arith), le-leb f (day + 1) (omega arith))
    ]

-- the tally of the next day
pub tally_next : (sign : Sign) (from : ℕ) (ls : List Leap) (expiry day : ℕ) → gaps_fit from ls expiry ≡ true
    → tally sign ls (day + 1) ≡ tally sign ls day + part sign (ending_before ls (day + 1))
tally_next Positive from [] expiry day h = refl
tally_next Negative from [] expiry day h = refl
tally_next sign from (l ∷ ls) expiry day h = go (eqb (month_start l.month) (day + 1)) refl (tally_next sign l.month ls expiry day rest)
  where
    rest : gaps_fit l.month ls expiry ≡ true
    rest = later from l ls expiry h

    go : (b : Bool) → eqb (month_start l.month) (day + 1) ≡ b → tally sign ls (day + 1) ≡ tally sign ls day + part sign (ending_before ls (day + 1))
        → tally sign (l ∷ ls) (day + 1) ≡ tally sign (l ∷ ls) day + part sign (cond b (ending_of l.sign) (ending_before ls (day + 1)))
    go true p ih =
        let now = eqb-true (month_start l.month) (day + 1) p in
        rw (le-leb (month_start l.month) (day + 1) (omega arith))
        (omega (
          arith,
          part_ending sign l.sign,
          not_yet sign l day (omega arith),
          tally_none sign l.month ls expiry day rest (omega arith),
          tally_none sign l.month ls expiry (day + 1) rest (omega arith),
        ))
    go false p ih = rw (leb_next (month_start l.month) day p) (omega arith)
