-- The stretch of a prepared list that a day lies in tells the tallies of the day, and how it ends.
-- Assumes nothing.
use mathlib.Core.Bool.{true}
use mathlib.Core.List.{List}
use mathlib.Core.Logic.{⊎_elim}
use mathlib.Core.Path.{◌≡◌, refl, sym, ap₂, ◌∙◌}
use Prim.Native.Nat.{ℕ, zero, suc, ◌+◌, ◌≤◌, ◌<◌, min}
use native.Mathlib.Decide.{dec_lt}
use native.Mathlib.Nat.{not-suc-le-zero, le_of_suc-le-suc, eq-or-lt_of_le}
use native.Mathlib.Numerals.{add-one}
use native.Mathlib.Omega.{arith}
use lib.IntN.{sub_ℕ}
use lib.ListN.{length, get_or, take}
use Rattle.calendar.specs.Calendar.{end_day, month_start}
use Rattle.calendar.proofs.Laws.{start_lt}
use Rattle.schedule.specs.declared.Sign.{Sign}
use Rattle.schedule.specs.declared.Sign.TheVariants.{Positive, Negative}
use Rattle.schedule.specs.Schedule.{Schedule, no_leap, well_formed}
use Rattle.schedule.proofs.Gaps.{parts}
use Rattle.clock.specs.declared.Ending.TheVariants.{Ordinary, Inserted, Deleted}
use Rattle.questions.specs.declared.by_day.Day.{Day}
use Rattle.clock.specs.Days.{first_dtai, ending_of, ending}
use Rattle.clock.specs.Known.{last_day}
use Rattle.questions.specs.Private.{one_of, of_sign}
use Rattle.questions.specs.Said.{ListSaid, DaySaid}
use Rattle.questions.proofs.Signs.{of_sign_next, dtai_placed}
use Rattle.many.specs.Private.{start_at, up_at, down_at, last_of, Starts, Tallies, Stretch, Prepared}
use Rattle.clock.proofs.Placed.{leap_month, in_order, Placed, ending_same, ending_next}

-- ---- by the days on which the leaps of a well-formed schedule take effect

module _ (s : Schedule) (w : well_formed s ≡ true) (prepared : List ℕ) (p : Starts s prepared) (day n : ℕ) (d : day < end_day) where
  -- no day that is asked about lies beyond the leaps
  in_leaps : start_at prepared n ≤ day → n ≤ 256 → n ≤ length s.leaps
  in_leaps b r = go n b r
    where
      go : (n : ℕ) → start_at prepared n ≤ day → n ≤ 256 → n ≤ length s.leaps
      go zero b r = omega arith
      go (suc n) b r =
          elim (dec_lt n (length s.leaps)) [
            | yes l ↦ l
            | no l ↦ absurd (omega (arith, rw (← add-one n) at b, p.beyond n (omega arith) (omega arith)))
          ]

  -- a stretch begins when its last leap takes effect, and the leaps before that one are in effect already
  leaps_begun : start_at prepared n ≤ day → n ≤ length s.leaps → (i : ℕ) → i < n → month_start (leap_month s.leaps i) ≤ day
  leaps_begun b r i h = go n b r h
    where
      go : (n : ℕ) → start_at prepared n ≤ day → n ≤ length s.leaps → i < n → month_start (leap_month s.leaps i) ≤ day
      go zero b r h = absurd (not-suc-le-zero h)
      go (suc m) b r h =
          let own : month_start (leap_month s.leaps m) ≤ day = omega (arith, p.leaps m r, rw (← add-one m) at b) in
          ⊎_elim (λ (e : i ≡ m). rw e own)
          (λ (l : i < m). omega (arith, start_lt (in_order s.leaps 0 s.expiry (parts s w).gaps i m l (omega arith))))
          (eq-or-lt_of_le (le_of_suc-le-suc h))

  placed : Stretch prepared day n → Placed s.leaps day n
  placed q =
      let r = in_leaps q.begun q.room in
      record { room = omega arith; begun = leaps_begun q.begun r; not_begun = λ h. omega (arith, q.not_over, p.leaps n (omega arith)) }

  -- the next day lies in the same stretch, or a leap takes effect on it
  stays : Stretch prepared day n → (start_at prepared (n + 1) ≡ day + 1 → ⊥) → ending s day ≡ Ordinary
  stays q ne = ending_same s w (placed q) (λ h e. ne (p.leaps n (omega arith) ∙ e))

  starts_next : Stretch prepared day n → start_at prepared (n + 1) ≡ day + 1 → n < length s.leaps
  starts_next q e =
      elim (dec_lt n (length s.leaps)) [
        | yes l ↦ l
        | no l ↦ absurd (omega (arith, p.beyond n (omega arith) q.room))
      ]

  steps : Stretch prepared day n → start_at prepared (n + 1) ≡ day + 1 → ending s day ≡ ending_of (get_or s.leaps n no_leap).sign
  steps q e = let r = starts_next q e in ending_next s w day n (omega arith) (sym (p.leaps n r) ∙ e)

  -- the negative leaps by then and by the next stretch tell the sign of the leap between
  lowers : Stretch prepared day n → start_at prepared (n + 1) ≡ day + 1 → Tallies s prepared
      → down_at prepared (n + 1) ≡ down_at prepared n + one_of Negative (get_or s.leaps n no_leap).sign
  lowers q e r =
      let k = starts_next q e in
      omega (arith, r.downs n (omega arith), r.downs (n + 1) (omega arith), of_sign_next Negative s.leaps n (omega arith))

-- a leap that adds to the negative ones is negative, and another one positive
lowered : (sign : Sign) (a b : ℕ) → b ≡ a + one_of Negative sign → a < b → ending_of sign ≡ Deleted
lowered Positive a b e l = absurd (omega arith)
lowered Negative a b e l = refl

not_lowered : (sign : Sign) (a b : ℕ) → b ≡ a + one_of Negative sign → b ≤ a → ending_of sign ≡ Inserted
not_lowered Positive a b e l = refl
not_lowered Negative a b e l = absurd (omega arith)

-- how a day in a stretch of a prepared list ends
module _ {s : Schedule} {prepared : List ℕ} (p : Prepared s prepared) {day n : ℕ} (d : day < end_day) (q : Stretch prepared day n) where
  pub usual_in : (start_at prepared (n + 1) ≡ day + 1 → ⊥) → Ordinary ≡ ending s day
  usual_in ne = sym (stays s p.well prepared p.starting day n d q ne)

  abbrev sign : Sign
  sign = (get_or s.leaps n no_leap).sign

  ends_with : start_at prepared (n + 1) ≡ day + 1 → ending s day ≡ ending_of sign
  ends_with e = steps s p.well prepared p.starting day n d q e

  fallen : start_at prepared (n + 1) ≡ day + 1 → down_at prepared (n + 1) ≡ down_at prepared n + one_of Negative sign
  fallen e = lowers s p.well prepared p.starting day n d q e p.tallied

  pub deleted_in : start_at prepared (n + 1) ≡ day + 1 → down_at prepared n < down_at prepared (n + 1) → Deleted ≡ ending s day
  deleted_in e l = sym (ends_with e ∙ lowered sign (down_at prepared n) (down_at prepared (n + 1)) (fallen e) l)

  pub inserted_in : start_at prepared (n + 1) ≡ day + 1 → down_at prepared (n + 1) ≤ down_at prepared n → Inserted ≡ ending s day
  inserted_in e l = sym (ends_with e ∙ not_lowered sign (down_at prepared n) (down_at prepared (n + 1)) (fallen e) l)

  -- and what the list says of the day
  pub day_in_stretch : (k : Day) → k.up ≡ up_at prepared n → k.down ≡ down_at prepared n → k.ending ≡ ending s day → k.last ≡ last_of prepared → DaySaid s day k
  day_in_stretch k eu ed ee el =
      let here = placed s p.well prepared p.starting day n d q in
      let room : n ≤ length s.leaps = omega (arith, here.room) in
      let up : k.up ≡ of_sign Positive (take n s.leaps) = eu ∙ p.tallied.ups n room in
      let down : k.down ≡ of_sign Negative (take n s.leaps) = ed ∙ p.tallied.downs n room in
      record {
        list = record { well = p.well; is_last = el ∙ p.is_last };
        is = λ a b. record { offset = ap₂ (λ (u d : ℕ). sub_ℕ (first_dtai + u) d) up down ∙ sym (dtai_placed s p.well here); ends = ee };
      }

-- a day up to the last one is asked about as it is
pub day_for_near : {s : Schedule} {last day : ℕ} {k : Day} → last ≡ last_day s → DaySaid s (min day last) k → DaySaid s day k
day_for_near {s} {last = last} {day} f g =
    record {
      list = g.list;
      is = λ p q. let e : min day last ≡ day = omega (arith, f) in rw e at (g.is (omega arith) (omega arith));
    }

-- a prepared list as one whose last day is known
pub list_in_lem : {s : Schedule} {prepared : List ℕ} → Prepared s prepared → ListSaid s (last_of prepared)
list_in_lem p = record { well = p.well; is_last = p.is_last }

-- ---- while it is looked for

-- a search ends before the last place
pub walk_room : (prepared : List ℕ) (at day : ℕ) → at ≤ 256 → start_at prepared (at + 1) ≤ day → day < start_at prepared 257 → at < 256
walk_room prepared at day r h e = ⊎_elim (λ (z : at ≡ 256). absurd (let g : start_at prepared 257 ≤ day = rw z at h in omega arith)) (λ (l : at < 256). l) (eq-or-lt_of_le r)
