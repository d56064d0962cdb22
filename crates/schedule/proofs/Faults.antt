-- The faults of words, counted place by place: there is none exactly when they are the words of a well-formed schedule.
-- Assumes nothing.
use Rattle.std.proofs.Common.{◌≡◌, ℕ, zero, suc, ◌+◌, ◌*◌, ◌<◌, ◌≤◌, Bool, true, ◌&&◌, eqb, ltb, List, length, get_or, drop, sym, refl, ap, ◌∙◌, ap₂, add-one, arith, eq-eqb, ne_eqb}
use mathlib.Core.Bool.{and_assoc}
use Rattle.schedule.specs.Schedule.{Leap, Schedule, max_leaps, max_gap, no_leap, gap_fits, expiry_fits, gaps_fit}
use Rattle.schedule.specs.Private.{great_month, signs_fit}
use Rattle.schedule.specs.WordLayout.{count_word, expiry_word, laid_out}
use Rattle.schedule.proofs.Formed.{in_use, gap_last}
use Rattle.schedule.proofs.Gaps.{fits_lt, fits_le}
use Rattle.schedule.proofs.WordLayout.{month_in_place, laid_length, laid_leap}

-- ---- counting faults

-- no fault in all is none before and none now
pub eqb_sum : (a b : ℕ) → eqb (a + b) 0 ≡ (eqb a 0 && eqb b 0)
eqb_sum zero b = let z : 0 + b ≡ b = omega arith in rw z
eqb_sum (suc a) b = ne_eqb (suc a + b) 0 (λ e. omega arith) ∙ sym (rw (ne_eqb (suc a) 0 (λ e. omega arith)))

-- one more test, which counts where there was no fault before, and what is left to test
one_more : (faults r : ℕ) (now rest : Bool) → (faults ≡ 0 → eqb r 0 ≡ now) → (eqb faults 0 && (now && rest)) ≡ (eqb (faults + r) 0 && rest)
one_more zero r now rest e = let z : 0 + r ≡ r = omega arith in rw (z, e refl)
one_more (suc faults) r now rest e = rw (ne_eqb (suc faults) 0 (λ z. omega arith), ne_eqb (suc faults + r) 0 (λ z. omega arith))

-- ---- the leaps in use, up to place i: the faults in the gaps, and how great the month is where there is none
pub record Gapped (s : Schedule) (faults last i : ℕ) : Type 0 where
  pub place : i ≤ length s.leaps
  pub gaps : gaps_fit 0 s.leaps s.expiry ≡ (eqb faults 0 && gaps_fit last (drop i s.leaps) s.expiry)
  pub few : faults ≤ i
  pub small : faults ≡ 0 → last ≤ max_gap * i

pub gapped_none : (s : Schedule) → Gapped s 0 0 0
gapped_none s = record { place = omega arith; gaps = refl; few = omega arith; small = λ e. omega arith }

module _ (s : Schedule) (room : length s.leaps ≤ max_leaps) (faults last i : ℕ) (p : Gapped s faults last i) where
  below_half : faults ≡ 0 → last < great_month
  below_half e = omega (arith, p.small e, p.place, room)

  gaps_one : (at r : ℕ) → i < length s.leaps → at ≡ (get_or s.leaps i no_leap).month → (faults ≡ 0 → eqb r 0 ≡ gap_fits last at)
      → gaps_fit 0 s.leaps s.expiry ≡ (eqb (faults + r) 0 && gaps_fit at (drop (i + 1) s.leaps) s.expiry)
  unfolding gaps_fit
  gaps_one at r h m e =
      p.gaps
      ∙ ap (λ ls. eqb faults 0 && gaps_fit last ls s.expiry) (in_use s i h)
      ∙ rw (← m) (one_more faults r (gap_fits last at) (gaps_fit at (drop (i + 1) s.leaps) s.expiry) e)

  pub gapped_one : (at r : ℕ) → i < length s.leaps → at ≡ (get_or s.leaps i no_leap).month → (last < great_month → eqb r 0 ≡ gap_fits last at) × (r ≤ 1) → Gapped s (faults + r) at (i + 1)
  gapped_one at r h m e =
      let fit : faults ≡ 0 → eqb r 0 ≡ gap_fits last at = λ z. e.0 (below_half z) in
      record {
        place = omega arith;
        gaps = gaps_one at r h m fit;
        few = omega (arith, p.few, e.1);
        small = λ z.
            let none : faults ≡ 0 = omega arith in
            let good : gap_fits last at ≡ true = sym (fit none) ∙ eq-eqb r 0 (omega arith) in
            omega (arith, p.small none, fits_lt last at good, fits_le last at good);
      }

  -- after the last leap
  pub gapped_all : length s.leaps ≤ i → gaps_fit 0 s.leaps s.expiry ≡ (eqb faults 0 && expiry_fits last s.expiry)
  gapped_all h = p.gaps ∙ ap (λ b. eqb faults 0 && b) (gap_last s i h last s.expiry)

-- ---- words: up to leap i the faults in the gaps of the schedule laid out, and those of the sign words
pub record GappedAt (words : List ℕ) (signs faults last i : ℕ) : Type 0 where
  pub gapped : Gapped (laid_out words) faults last i
  pub signed : signs_fit words i ≡ eqb signs 0
  pub few : signs ≤ i

pub gapped_at_none : (words : List ℕ) → GappedAt words 0 0 0 0
unfolding signs_fit
gapped_at_none words = record { gapped = gapped_none (laid_out words); signed = refl; few = omega arith }

signs_one : (words : List ℕ) (i : ℕ) → signs_fit words (i + 1) ≡ (signs_fit words i && ltb (get_or words (2 * i + 1) 0) 2)
unfolding signs_fit
signs_one words i = rw (add-one i)

module _ (words : List ℕ) (room : count_word words ≤ max_leaps) (signs faults last i : ℕ) (p : GappedAt words signs faults last i) where
  laid_room : length (laid_out words).leaps ≤ max_leaps
  laid_room = omega (arith, laid_length words)

  pub gapped_at_one : (z r : ℕ) → i < count_word words → (eqb z 0 ≡ ltb (get_or words (2 * i + 1) 0) 2) × (z ≤ 1) → (last < great_month → eqb r 0 ≡ gap_fits last (get_or words (2 * i) 0)) × (r ≤ 1)
      → GappedAt words (signs + z) (faults + r) (get_or words (2 * i) 0) (i + 1)
  gapped_at_one z r h sign gap =
      let there : get_or words (2 * i) 0 ≡ (get_or (laid_out words).leaps i no_leap).month = sym (ap (λ (l : Leap). l.month) (laid_leap words i h) ∙ month_in_place words i (omega arith)) in
      record {
        gapped = gapped_one (laid_out words) laid_room faults last i p.gapped (get_or words (2 * i) 0) r (omega (arith, laid_length words)) there gap;
        signed = signs_one words i ∙ (ap₂ (λ x y. x && y) p.signed (sym sign.0) ∙ sym (eqb_sum signs z));
        few = omega (arith, p.few, sign.1);
      }

  -- after the last leap the leaps fit exactly where no fault was counted and the expiry fits
  pub gapped_at_all : count_word words ≤ i
      → (eqb (signs + faults) 0 && expiry_fits last (expiry_word words)) ≡ (signs_fit words (count_word words) && gaps_fit 0 (laid_out words).leaps (expiry_word words))
  gapped_at_all h =
      let place : i ≡ count_word words = omega (arith, p.gapped.place, laid_length words) in
      ap (λ b. b && expiry_fits last (expiry_word words)) (eqb_sum signs faults)
      ∙ (and_assoc (eqb signs 0) (eqb faults 0) (expiry_fits last (expiry_word words))
      ∙ ap₂ (λ x y. x && y) (sym (rw place at p.signed)) (sym (gapped_all (laid_out words) laid_room faults last i p.gapped (omega (arith, laid_length words)))))
