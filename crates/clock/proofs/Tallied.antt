-- DTAI and TAI by how many leaps of each sign are in effect, in ℕ: so the code has them, and most proofs.
-- Assumes nothing.
use mathlib.Core.Bool.{Bool, true, false, cond, ◌&&◌}
use mathlib.Core.List.{List, [], ◌∷◌}
use mathlib.Core.Path.{◌≡◌, refl, sym, ap, ◌∙◌}
use Prim.Native.Nat.{ℕ, zero, suc, ◌+◌, ◌-◌, ◌*◌, ◌≤◌}
use native.Mathlib.Decide.{dec_lt}
use native.Mathlib.Nat.{zero-add}
use native.Mathlib.Omega.{arith}
use lib.Dec.{ltb}
use lib.IntN.{pos, negsuc, sub_ℕ, neg_ℤ, ◌+ℤ◌, ◌-ℤ◌, ◌*ℤ◌}
use borrow.Author.Tests.{ltb-true, ltb-false, lt-ltb, le-ltb}
use Rattle.calendar.specs.Calendar.{first_day}
use Rattle.schedule.specs.declared.Sign.{Sign}
use Rattle.schedule.specs.declared.Sign.TheVariants.{Positive, Negative}
use Rattle.schedule.specs.declared.Leap.{Leap}
use Rattle.schedule.specs.Schedule.{Schedule}
use Rattle.schedule.specs.Extends.{same_sign}
use Rattle.clock.specs.Days.{micros_per_second, micros_per_day, first_dtai, in_effect, second_of, leap_seconds, dtai, natural, tai_with, tai}
use Rattle.clock.proofs.Tally.{count, tally}

-- ---- differences of two numbers

-- x - y, where y is not above x
pub plus_negative : (x y : ℕ) → y ≤ x → pos x +ℤ neg_ℤ (pos y) ≡ pos (x - y)
plus_negative x zero h = ap pos (omega arith)
plus_negative x (suc y) h = rw (le-ltb x (suc y) h)

-- it is a number, or cut off at 0
cut_off : (x y : ℕ) → natural (pos x +ℤ neg_ℤ (pos y)) ≡ x - y
cut_off x zero = omega arith
cut_off x (suc y) = go (ltb x (suc y)) refl
  where
    go : (t : Bool) → ltb x (suc y) ≡ t → natural (cond t (negsuc (suc y - suc x)) (pos (x - suc y))) ≡ x - suc y
    go true e = let l = ltb-true x (suc y) e in omega arith
    go false e = refl

-- k + (a - b), and -1 + (a - b)
plus_minus : (k a b : ℕ) → pos k +ℤ sub_ℕ a b ≡ sub_ℕ (k + a) b
plus_minus k a b =
    elim (dec_lt a b) [
      | yes l ↦
          elim (dec_lt (k + a) b) [
            | yes m ↦ rw (lt-ltb a b l, lt-ltb (k + a) b m, lt-ltb k (suc (b - suc a)) (omega arith)) (ap negsuc (omega arith))
            | no m ↦ rw (lt-ltb a b l, le-ltb (k + a) b (omega arith), le-ltb k (suc (b - suc a)) (omega arith)) (ap pos (omega arith))
          ]
      | no l ↦ rw (le-ltb a b (omega arith), le-ltb (k + a) b (omega arith)) (ap pos (omega arith))
    ]

less_minus : (a b : ℕ) → negsuc 0 +ℤ sub_ℕ a b ≡ sub_ℕ a (1 + b)
less_minus a b =
    elim (dec_lt a b) [
      | yes l ↦ rw (lt-ltb a b l, lt-ltb a (1 + b) (omega arith)) (ap negsuc (omega arith))
      | no l ↦
          elim (dec_lt a (1 + b)) [
            | yes m ↦ rw (le-ltb a b (omega arith), lt-ltb a (1 + b) m, lt-ltb (a - b) 1 (omega arith)) (ap negsuc (omega arith))
            | no m ↦ rw (le-ltb a b (omega arith), le-ltb a (1 + b) (omega arith), le-ltb (a - b) 1 (omega arith)) (ap pos (omega arith))
          ]
    ]

-- x + 1,000,000 (a - b): as an integer, where nothing is cut off; and as a number
pub plus_times : (x a b : ℕ) → micros_per_second * b ≤ x + micros_per_second * a
    → pos (x + micros_per_second * a - micros_per_second * b) ≡ pos x +ℤ pos micros_per_second *ℤ sub_ℕ a b
plus_times x a b h = go (ltb a b) refl
  where
    go : (t : Bool) → ltb a b ≡ t
        → pos (x + micros_per_second * a - micros_per_second * b) ≡ pos x +ℤ pos micros_per_second *ℤ cond t (negsuc (b - suc a)) (pos (a - b))
    go true e =
        let l = ltb-true a b e in
        ap pos (omega arith) ∙ sym (plus_negative x (micros_per_second * suc (b - suc a)) (omega arith))
    go false e = let l = ltb-false a b e in ap pos (omega arith)

times_cut : (x a b : ℕ) → natural (pos x +ℤ pos micros_per_second *ℤ sub_ℕ a b) ≡ x + micros_per_second * a - micros_per_second * b
times_cut x a b = go (ltb a b) refl
  where
    go : (t : Bool) → ltb a b ≡ t
        → natural (pos x +ℤ pos micros_per_second *ℤ cond t (negsuc (b - suc a)) (pos (a - b))) ≡ x + micros_per_second * a - micros_per_second * b
    go true e = let l = ltb-true a b e in cut_off x (micros_per_second * suc (b - suc a)) ∙ omega arith
    go false e = let l = ltb-false a b e in omega arith

-- the difference of two counts tells them apart
pub minus_same : (a b c d : ℕ) → sub_ℕ a b ≡ sub_ℕ c d → a + d ≡ c + b
minus_same a b c d = go (ltb a b) (ltb c d) refl refl
  where
    go : (x y : Bool) → ltb a b ≡ x → ltb c d ≡ y → cond x (negsuc (b - suc a)) (pos (a - b)) ≡ cond y (negsuc (d - suc c)) (pos (c - d)) → a + d ≡ c + b
    go true true p q h = let z : b - suc a ≡ d - suc c = cc in omega (arith, ltb-true a b p, ltb-true c d q)
    go true false p q h = let z : ◌≡◌ {A = ℕ} 0 1 = cc in omega arith
    go false true p q h = let z : ◌≡◌ {A = ℕ} 0 1 = cc in omega arith
    go false false p q h = let z : a - b ≡ c - d = cc in omega (arith, ltb-false a b p, ltb-false c d q)

-- ---- DTAI

-- one leap, by whether it is in effect
one_more : (own : Sign) (b : Bool) (up down : ℕ)
    → cond b (second_of own) (pos 0) +ℤ sub_ℕ up down ≡ sub_ℕ (count (same_sign Positive own && b) + up) (count (same_sign Negative own && b) + down)
one_more Positive true up down = rw (zero-add down) (plus_minus 1 up down)
one_more Negative true up down = rw (zero-add up) (less_minus up down)
one_more Positive false up down = rw (zero-add down) (plus_minus 0 up down)
one_more Negative false up down = rw (zero-add down) (plus_minus 0 up down)

leaps_tallied : (ls : List Leap) (day : ℕ) → leap_seconds ls day ≡ sub_ℕ (tally Positive ls day) (tally Negative ls day)
leaps_tallied [] day = refl
leaps_tallied (l ∷ ls) day =
    rw (leaps_tallied ls day) (one_more l.sign (in_effect l day) (tally Positive ls day) (tally Negative ls day))

-- DTAI is 10 and the positive leaps in effect, less the negative ones
pub dtai_tallied : (s : Schedule) (day : ℕ) → dtai s day ≡ sub_ℕ (first_dtai + tally Positive s.leaps day) (tally Negative s.leaps day)
unfolding dtai
dtai_tallied s day =
    ap (λ z. pos first_dtai +ℤ z) (leaps_tallied s.leaps day)
    ∙ plus_minus first_dtai (tally Positive s.leaps day) (tally Negative s.leaps day)

-- ---- TAI

-- the formula's first two terms
pub days_exact : (day t : ℕ) → first_day ≤ day → pos micros_per_day *ℤ (pos day -ℤ pos first_day) +ℤ pos t ≡ pos (micros_per_day * (day - first_day) + t)
days_exact day t i = rw (plus_negative day first_day i)

pub tai_by_dtai : (s : Schedule) (day t : ℕ) → tai s day t ≡ tai_with (dtai s day) day t
unfolding tai
tai_by_dtai s day t = refl

-- where DTAI is a - b
pub tai_minus : (a b day t : ℕ) → first_day ≤ day → tai_with (sub_ℕ a b) day t ≡ micros_per_day * (day - first_day) + t + micros_per_second * a - micros_per_second * b
unfolding tai_with
tai_minus a b day t i = rw (days_exact day t i) (times_cut (micros_per_day * (day - first_day) + t) a b)

pub tai_tallied : (s : Schedule) (day t : ℕ) → first_day ≤ day
    → tai s day t
    ≡ micros_per_day * (day - first_day) + t + micros_per_second * (first_dtai + tally Positive s.leaps day) - micros_per_second * tally Negative s.leaps day
tai_tallied s day t i =
    tai_by_dtai s day t
    ∙ ap (λ d. tai_with d day t) (dtai_tallied s day)
    ∙ tai_minus (first_dtai + tally Positive s.leaps day) (tally Negative s.leaps day) day t i
