-- Every schedule that the reading of a nybble list accepts is well formed.
-- Assumes nothing.
use mathlib.Core.Path.{◌≡◌, refl}
use mathlib.Core.Bool.{true}
use mathlib.Core.List.{List, [], ◌∷◌}
use Prim.Native.Nat.{ℕ, ◌+◌, ◌<◌}
use native.Mathlib.Nat.{pos_of_ne-zero}
use native.Mathlib.Omega.{arith}
use lib.Dec.{ltb, eqb}
use lib.ListN.{length}
use borrow.Author.Tests.{eqb-true, eqb-false}
use Rattle.schedule.specs.declared.Sign.{Sign}
use Rattle.schedule.specs.Schedule.{blank_schedule, leaves_gap, well_formed}
use Rattle.calendar.specs.Calendar.{starts_month}
use Rattle.schedule.proofs.Rounded.{first_leaves_gap}
use Rattle.schedule.proofs.Cases.{by_cond}
use Rattle.schedule.proofs.Sound.{Formed, never, Sound, sound_leap, sound_end, blank_sound}
use Rattle.nybbles.specs.declared.code.Mark.{Mark}
use Rattle.nybbles.specs.declared.code.Mark.TheVariants.{Continues, Leaps, Expires}
use Rattle.nybbles.specs.declared.code.Code.{Code}
use Rattle.nybbles.specs.Codes.{nybbles, codes_of}
use Rattle.nybbles.specs.Read.{State, fault, after, at_end, read_codes, start, read_nybbles}
use Rattle.nybbles.specs.Private.{Passes}
use Rattle.nybbles.proofs.Codes.{All, more, Some, codes_some}
use Rattle.nybbles.proofs.Reading.{passes, leap_room}

by_mark_lem : {A : Type 0} (m : Mark) → (m ≡ Continues → A) → ((k : Sign) → m ≡ Leaps k → A) → (m ≡ Expires → A) → A
by_mark_lem Continues f g h = f refl
by_mark_lem (Leaps k) f g h = g k refl
by_mark_lem Expires f g h = h refl

-- the months since the last leap, at `base`, are the gap so far
record Right (base : ℕ) (st : State) : Type 0 where
  total : st.total ≡ base + st.gap
  sound : Sound base st.schedule

module _ (st : State) (c : Code) (base : ℕ) (r : Right base st) (h : 0 < c.months) (s : Passes st.gap st.total (length st.schedule.leaps) c) where
  month : st.total + c.months ≡ base + (st.gap + c.months)
  month = omega (arith, r.total)

  right_on : c.mark ≡ Continues → Right base (after st c)
  unfolding after
  right_on m = rw m (record { total = month; sound = r.sound })

  right_leap : (k : Sign) → c.mark ≡ Leaps k → Right (st.total + c.months) (after st c)
  unfolding after
  right_leap k m = rw m (record {
    total = omega arith;
    sound = rw month (sound_leap base (st.gap + c.months) st.schedule k (omega arith) s.gap_is_within (leap_room _ _ k m s.room) r.sound);
  })

  right_end : c.mark ≡ Expires → (count p : ℕ) → Formed (at_end count p (after st c))
  unfolding after
  right_end m count p =
      by_cond Formed (ltb p count) (λ b. never 6 p (omega arith))
      (λ b. rw (m, month) (sound_end base (st.gap + c.months) st.schedule (omega arith) s.gap_is_within (rw month at s.total_fits) r.sound))

sound : (cs : List Code) (count p base : ℕ) (st : State) → All Some cs → Right base st → Formed (read_codes count p st cs)
unfolding read_codes
sound [] count p base st a r = never 1 p (omega arith)
sound (c ∷ cs) count p base st (more h a) r =
    by_cond Formed (eqb (fault st c) 0)
    (λ e. let s = passes st c (eqb-true (fault st c) 0 e) in
    by_mark_lem c.mark
    (λ m. simp m (sound cs count (p + c.size) base (after st c) a (right_on st c base r h.0 s m)))
    (λ k m. simp m (sound cs count (p + c.size) (st.total + c.months) (after st c) a (right_leap st c base r h.0 s k m)))
    (λ m. simp m (right_end st c base r h.0 s m count (p + c.size))))
    (λ e. never (fault st c) p (pos_of_ne-zero (eqb-false (fault st c) 0 e)))

pub read_formed : (bytes : List ℕ) → Formed (read_nybbles bytes)
unfolding read_nybbles
read_formed bytes =
    let ns = nybbles bytes in
    sound (codes_of ns) (length ns) 0 0 start (codes_some ns) (record { total = refl; sound = blank_sound })

-- a refused reading returns the blank schedule
pub refused_blank : (bytes : List ℕ) → ((read_nybbles bytes).number ≡ 0 → ⊥) → (read_nybbles bytes).schedule ≡ blank_schedule
refused_blank bytes = (read_formed bytes).blank

-- an accepted list's schedule is well formed
pub accepted_well_formed : (bytes : List ℕ) → (read_nybbles bytes).number ≡ 0 → well_formed (read_nybbles bytes).schedule ≡ true
accepted_well_formed bytes = (read_formed bytes).formed

-- every reader gives a first of a month
pub accepted_first : (bytes : List ℕ) → (read_nybbles bytes).number ≡ 0 → starts_month (read_nybbles bytes).schedule.expiry ≡ true
accepted_first bytes = (read_formed bytes).first

-- so what was read can be written
pub accepted_leaves_gap : (bytes : List ℕ) → (read_nybbles bytes).number ≡ 0 → leaves_gap (read_nybbles bytes).schedule ≡ true
accepted_leaves_gap bytes e = first_leaves_gap (read_nybbles bytes).schedule (accepted_well_formed bytes e) (accepted_first bytes e)
