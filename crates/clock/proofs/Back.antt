-- Smoothed time to UTC: the way back in closed form, that it undoes UTC to UTS, and that it gives the greatest instant not above.
-- Assumes nothing.
use mathlib.Core.Logic.{inl, inr, ⊎_elim}
use mathlib.Core.Path.{◌≡◌, sym, ap, ◌∙◌}
use Prim.Native.Nat.{ℕ, ◌+◌, ◌-◌, ◌*◌, ◌/◌, ◌≤◌, ◌<◌}
use native.Mathlib.Decide.{dec_lt}
use native.Mathlib.Omega.{arith}
use lib.Dec.{leb}
use borrow.Author.Tests.{leb-true, leb-false, le-leb, lt-leb}
use Rattle.calendar.proofs.Greatest.{Greatest, greatest_found, greatest_is}
use Rattle.schedule.specs.Schedule.{Schedule}
use Rattle.clock.specs.declared.Ending.{Ending}
use Rattle.clock.specs.declared.Ending.TheVariants.{Ordinary, Inserted, Deleted}
use Rattle.clock.specs.Days.{ending, day_length}
use Rattle.clock.specs.Smoothed.{nanos_per_day, uts, utc_of}
use Rattle.clock.specs.Known.{last_day, uts_cutoff, nanos_cutoff}
use Rattle.refusals.specs.Answer.{given}
use Rattle.clock.specs.Question.{utc_to_uts, uts_to_utc}
use Rattle.clock.specs.Rules.{GreatestNotAbove}
use Rattle.clock.proofs.Tai.{length_least}
use Rattle.clock.proofs.Uts.{uts_is, uts_rises, uts_within, uts_plain}
use Rattle.clock.proofs.Checks.{Sure, instant_passed, on_utc, utc_answered, on_uts}

-- the microseconds from which on a day is smoothed: 23:43:21 before an inserted second and 23:43:19 before a deleted one
abbrev inserted_from : ℕ
inserted_from = 85_401_000_000

abbrev deleted_from : ℕ
deleted_from = 85_399_000_000

-- t is the way back of u if its UTS is not above u, and that of each later one is
back_is : (w : Ending) (u t : ℕ) → t < day_length w → uts w t ≤ u → ((j : ℕ) → t < j → j < day_length w → u < uts w j) → t ≡ utc_of w u
back_is w u t h i f =
    sym (greatest_is (record { within = omega arith; passes = le-leb (uts w t) u i; above = λ j a b. lt-leb (uts w j) u (f j a (omega arith)) }))

pub back_ordinary : (u : ℕ) → u < nanos_per_day → u / 1000 ≡ utc_of Ordinary u
back_ordinary u h = back_is Ordinary u (u / 1000) (omega arith) (rw (uts_is Ordinary (u / 1000)) (omega arith)) (λ j a b. rw (uts_is Ordinary j) (omega arith))

pub back_inserted_low : (u : ℕ) → u < 1000 * inserted_from → u / 1000 ≡ utc_of Inserted u
back_inserted_low u h = back_is Inserted u (u / 1000) (omega arith) (rw (uts_is Inserted (u / 1000)) (omega arith)) (λ j a b. rw (uts_is Inserted j) (omega arith))

pub back_inserted_high : (u : ℕ) → u < nanos_per_day → 1000 * inserted_from ≤ u → (u - inserted_from) / 999 ≡ utc_of Inserted u
back_inserted_high u h i =
    let t = (u - inserted_from) / 999 in
    back_is Inserted u t (omega arith) (rw (uts_is Inserted t) (omega arith)) (λ j a b. rw (uts_is Inserted j) (omega arith))

pub back_deleted_low : (u : ℕ) → u < 1000 * deleted_from → u / 1000 ≡ utc_of Deleted u
back_deleted_low u h = back_is Deleted u (u / 1000) (omega arith) (rw (uts_is Deleted (u / 1000)) (omega arith)) (λ j a b. rw (uts_is Deleted j) (omega arith))

pub back_deleted_high : (u : ℕ) → u < nanos_per_day → 1000 * deleted_from ≤ u → (u + deleted_from) / 1001 ≡ utc_of Deleted u
back_deleted_high u h i =
    let t = (u + deleted_from) / 1001 in
    back_is Deleted u t (omega arith) (rw (uts_is Deleted t) (omega arith)) (λ j a b. rw (uts_is Deleted j) (omega arith))

-- before it matters how the day ends
pub back_plain : (w : Ending) (u : ℕ) → u < nanos_cutoff → u / 1000 ≡ utc_of w u
back_plain Ordinary u h = back_ordinary u (omega arith)
back_plain Inserted u h = back_inserted_low u (omega arith)
back_plain Deleted u h = back_deleted_low u h

-- the way back is the greatest microsecond of the day whose UTS is not above u
back_greatest : (w : Ending) (u : ℕ) → Greatest (λ t. leb (uts w t) u) (day_length w - 1) (utc_of w u)
back_greatest w u = greatest_found (λ t. leb (uts w t) u) (day_length w - 1) 0 (omega arith) (le-leb (uts w 0) u (omega (arith, uts_plain w 0 (omega arith))))

-- on the last day a smoothed time below the cut-off is that of a time below the cut-off
cutoff_back : (w : Ending) (t u : ℕ) → t < day_length w → uts w t ≤ u → u < nanos_cutoff → t < uts_cutoff
cutoff_back w t u h i l =
    elim (dec_lt t uts_cutoff) [
      | yes q ↦ q
      | no q ↦
          let plain = uts_plain w uts_cutoff (omega arith) in
          elim (dec_lt uts_cutoff t) [
            | yes r ↦ absurd (omega (arith, uts_rises w uts_cutoff t r h))
            | no r ↦ let z : t ≡ uts_cutoff = omega arith in absurd (omega (arith, ap (λ x. uts w x) z))
          ]
    ]

-- UTS to UTC undoes UTC to UTS
pub uts_undone : (s : Schedule) (day t u : ℕ) → utc_to_uts s day t ≡ given u → uts_to_utc s day u ≡ given t
uts_undone s day t u h =
    let w = ending s day in
    let k = on_utc s uts_cutoff day t (uts w t) u h in
    let is = k.is in
    let sure : Sure (last_day s) nanos_cutoff day u =
    ⊎_elim (λ q. inl q) (λ (q : (day ≡ last_day s) × (t < uts_cutoff)). inr (q.0, omega (arith, uts_plain w t (omega arith)))) k.sure in
    instant_passed s nanos_per_day nanos_cutoff day u (record { well = k.well; from = k.from; below = omega (arith, uts_within w t k.below); sure = sure })
    ∙ ap given (sym (back_is w u t k.below (omega arith) (λ j a b. omega (arith, uts_rises w t j a b))))

-- UTS to UTC gives the greatest t of that day whose UTS is not above the one given
pub greatest_not_above : (s : Schedule) (day u t : ℕ) → uts_to_utc s day u ≡ given t → GreatestNotAbove s day u t
greatest_not_above s day u t h =
    let w = ending s day in
    let on = on_uts s day u (utc_of w u) t h in
    let k = on.0 in
    let g : Greatest (λ i. leb (uts w i) u) (day_length w - 1) t = rw on.1 at (back_greatest w u) in
    let low : uts w t ≤ u = leb-true (uts w t) u g.passes in
    let below : t < day_length w = omega (arith, g.within, length_least w) in
    let sure : Sure (last_day s) uts_cutoff day t =
    ⊎_elim (λ q. inl q) (λ (q : (day ≡ last_day s) × (u < nanos_cutoff)). inr (q.0, cutoff_back w t u below low q.1)) k.sure in
    record {
      at = uts w t;
      answered = utc_answered s uts_cutoff day t (uts w t) k.well k.from sure below;
      not_above = low;
      greatest = λ j v a i.
          let m = on_utc s uts_cutoff day j (uts w j) v a in
          elim (dec_lt t j) [
            | yes l ↦ absurd (omega (arith, m.is, leb-false (uts w j) u (g.above j l (omega (arith, m.below)))))
            | no l ↦ omega arith
          ];
    }
