-- What the loops keep that prepare a list for many questions, and that the list is prepared then.
-- Assumes nothing.
use mathlib.Core.Bool.{true}
use mathlib.Core.List.{List}
use mathlib.Core.Logic.{⊎_elim}
use mathlib.Core.Path.{◌≡◌, refl, sym, ap, ◌∙◌}
use Prim.Native.Nat.{ℕ, ◌+◌, ◌-◌, ◌*◌, ◌≤◌, ◌<◌}
use native.Mathlib.Decide.{dec_lt}
use native.Mathlib.Nat.{eq-or-lt_of_le}
use native.Mathlib.Omega.{arith}
use borrow.Rule.Slice.PartMut.{put_mid, mid_of}
use Rattle.std.proofs.Common.{rules}
use Rattle.std.proofs.lemmas.List.{places}
use lib.Dec.{eqb}
use lib.ListN.{length, get_or, take, set, replicate, length-set, length-replicate, get_or-replicate, drop, length-take, length-drop}
use lib.Seq.{set_out, get_or-set_same, get_or-set_other}
use borrow.Author.Tests.{eqb-true, eqb-false}
use Rattle.calendar.specs.Calendar.{end_day, month_start}
use Rattle.schedule.specs.declared.Sign.TheVariants.{Positive, Negative}
use Rattle.schedule.specs.declared.Sign.{Sign}
use Rattle.schedule.specs.declared.Leap.{Leap}
use Rattle.schedule.specs.Schedule.{Schedule, no_leap, well_formed}
use Rattle.schedule.specs.WordLayout.{word_of_sign}
use Rattle.schedule.proofs.Cases.{by_bool}
use Rattle.schedule.proofs.Gaps.{parts}
use Rattle.questions.specs.Private.{one_of, of_sign}
use Rattle.questions.proofs.Signs.{of_sign_next, both_signs}
use Rattle.clock.specs.Known.{last_day}
use Rattle.clock.proofs.Tai.{last_inside as last_before}
use Rattle.many.specs.Private.{start_at, up_at, down_at, guess_at, last_of, far, Starts, Tallies, Prepared, Fenced, Guesses, Small, Ready, Stretch, Within, Clear, Empty}

-- ---- arrays that differ at most from one place up to another

pub within_none : {from to : ℕ} (xs : List ℕ) → Within from to xs xs
within_none xs = record { size = refl; below = λ k h. refl; beyond = λ k h. refl }

pub within_one : {from to : ℕ} {old new : List ℕ} → Within from to old new → (j v : ℕ) → from ≤ j → j < to → Within from to old (set new j v)
within_one {new = new} p j v a b =
    record {
      size = length-set new j v ∙ p.size;
      below = λ k h. get_or-set_other new j k v 0 (λ e. omega arith) ∙ p.below k h;
      beyond = λ k h. get_or-set_other new j k v 0 (λ e. omega arith) ∙ p.beyond k h;
    }

-- an element of an array in which one was stored
stored : (P : ℕ → Type 0) (xs : List ℕ) (i v k : ℕ) → P (get_or xs k 0) → (k ≡ i → P v) → P (get_or (set xs i v) k 0)
stored P xs i v k old new =
    by_bool (eqb k i)
    (λ t.
    let z = eqb-true k i t in
    elim (dec_lt i (length xs)) [
      | yes l ↦ rw (z, get_or-set_same xs i v 0 l) (new z)
      | no l ↦ rw (set_out xs i v (omega arith)) old
    ])
    (λ t. rw (get_or-set_other xs i k v 0 (eqb-false k i t)) old)

-- ---- the days on which the first i leaps take effect

-- the elements up to the one that was stored, each at its own place
last_stored : (P : ℕ → ℕ → Type 0) (place : ℕ → ℕ) (xs : List ℕ) (i v : ℕ) → place i < length xs → ((k : ℕ) → k < i → place k ≡ place i → ⊥)
    → ((k : ℕ) → k < i → P k (get_or xs (place k) 0)) → P i v → (k : ℕ) → k ≤ i → P k (get_or (set xs (place i) v) (place k) 0)
last_stored P place xs i v l other old new k h =
    ⊎_elim (λ (z : k ≡ i). rw (z, get_or-set_same xs (place i) v 0 l) new)
    (λ (b : k < i). rw (get_or-set_other xs (place i) (place k) v 0 (other k b)) (old k b)) (eq-or-lt_of_le h)

-- elements put into an array from place `a` on
module _ (a n : ℕ) (xs ys : List ℕ) (l : length ys ≡ n) (r : a + n ≤ length xs) where
  put_size : length (put_mid a n xs ys) ≡ length xs
  put_size = search (rules, places)

  put_below : (k : ℕ) → k < a → get_or (put_mid a n xs ys) k 0 ≡ get_or xs k 0
  put_below k h = search (rules, places)

  put_beyond : (k : ℕ) → a + n ≤ k → get_or (put_mid a n xs ys) k 0 ≡ get_or xs k 0
  put_beyond k h = search (rules, places)

  put_at : (k : ℕ) → k < n → get_or (put_mid a n xs ys) (k + a) 0 ≡ get_or ys k 0
  put_at k h = search (rules, places)

-- `far` put at all places of the leaps
pub emptied : (xs ys : List ℕ) → length xs ≡ 1669 → ys ≡ replicate (length (mid_of 1 257 xs)) far → Within 1 258 xs (put_mid 1 257 xs ys) × Empty (put_mid 1 257 xs ys)
emptied xs ys l e =
    let part : length (mid_of 1 257 xs) ≡ 257 = omega (arith, length-take 257 (drop 1 xs), length-drop 1 xs) in
    let long : length ys ≡ 257 = rw e (length-replicate {A = ℕ} (length (mid_of 1 257 xs)) far ∙ part) in
    let room : 1 + 257 ≤ length xs = omega arith in (
      record { size = put_size 1 257 xs ys long room; below = put_below 1 257 xs ys long room; beyond = put_beyond 1 257 xs ys long room },
      record {
        none = λ i h.
            put_at 1 257 xs ys long room i (omega arith)
            ∙ (ap (λ zs. get_or zs i 0) e ∙ get_or-replicate {A = ℕ} (length (mid_of 1 257 xs)) i far 0 (omega (arith, part)));
      },
    )

pub record Starting (s : Schedule) (old new : List ℕ) (i : ℕ) : Type 0 where
  pub within : Within 1 258 old new
  pub place : i ≤ length s.leaps
  pub leaps : (k : ℕ) → k < i → start_at new (k + 1) ≡ month_start (get_or s.leaps k no_leap).month
  pub beyond : (k : ℕ) → i ≤ k → k ≤ 256 → start_at new (k + 1) ≡ far

pub starting_none : (s : Schedule) (old : List ℕ) → Empty old → Starting s old old 0
starting_none s old e = record { within = within_none old; place = omega arith; leaps = λ k h. absurd (omega arith); beyond = λ k h r. e.none k r }

pub starting_one : {s : Schedule} {old new : List ℕ} {i : ℕ} → length old ≡ 1669 → length s.leaps ≤ 256 → Starting s old new i → i < length s.leaps → (v : ℕ)
    → v ≡ month_start (get_or s.leaps i no_leap).month → Starting s old (set new (i + 1) v) (i + 1)
starting_one {s} {old} {new} {i} size room p h v e =
    record {
      within = within_one p.within (i + 1) v (omega arith) (omega arith);
      place = omega arith;
      leaps = λ k l. last_stored (λ j x. x ≡ month_start (get_or s.leaps j no_leap).month) (λ j. j + 1) new i v (omega (arith, size, p.within.size)) (λ j b z. omega arith) p.leaps e k (omega arith);
      beyond = λ k l r. get_or-set_other new (i + 1) (k + 1) v 0 (λ z. omega arith) ∙ p.beyond k (omega arith) r;
    }

pub starting_all : {s : Schedule} {old new : List ℕ} {i : ℕ} → Starting s old new i → length s.leaps ≤ i → Within 1 258 old new × Starts s new
starting_all p h = (p.within, record { leaps = λ k l. p.leaps k (omega arith); beyond = λ k l r. p.beyond k (omega (arith, p.place)) r })

-- ---- how many of the first i leaps have each sign

pub record Tallying (s : Schedule) (old new : List ℕ) (down i : ℕ) : Type 0 where
  pub within : Within 258 774 old new
  pub place : i ≤ length s.leaps
  pub sum : down ≡ of_sign Negative (take i s.leaps)
  pub few : down ≤ i
  pub ups : (k : ℕ) → k ≤ i → up_at new k ≡ of_sign Positive (take k s.leaps)
  pub downs : (k : ℕ) → k ≤ i → down_at new k ≡ of_sign Negative (take k s.leaps)
  pub small : (k : ℕ) → 258 ≤ k → k < 774 → get_or new k 0 ≤ 256

pub tallying_none : (s : Schedule) (old : List ℕ) → Clear 258 774 old → Tallying s old old 0 0
tallying_none s old c =
    record {
      within = within_none old;
      place = omega arith;
      sum = refl;
      few = omega arith;
      ups = λ k h. let z : k ≡ 0 = omega arith in rw z (c.zero_at 258 (omega arith) (omega arith));
      downs = λ k h. let z : k ≡ 0 = omega arith in rw z (c.zero_at 516 (omega arith) (omega arith));
      small = λ k a b. omega (arith, c.zero_at k a b);
    }

-- a negative leap has sign word 1, and a positive one 0
sign_count : (sign : Sign) → one_of Negative sign ≡ word_of_sign sign
sign_count Positive = refl
sign_count Negative = refl

-- the leaps that are not negative are positive
rest_positive : (ls : List Leap) (n : ℕ) → n ≤ length ls → of_sign Positive (take n ls) ≡ n - of_sign Negative (take n ls)
rest_positive ls n h = omega (arith, both_signs (take n ls), length-take n ls)

pub tallying_one : {s : Schedule} {old new : List ℕ} {down i : ℕ} → length old ≡ 1669 → length s.leaps ≤ 256 → Tallying s old new down i → i < length s.leaps → (r : ℕ)
    → r ≡ word_of_sign (get_or s.leaps i no_leap).sign → r < 2 → Tallying s old (set (set new (258 + (i + 1)) (i + 1 - (down + r))) (516 + (i + 1)) (down + r)) (down + r) (i + 1)
tallying_one {s} {old} {new} {down} {i} size room p h r e small =
    let ls = s.leaps in
    let n = i + 1 in
    let d = down + r in
    let sum : down + r ≡ of_sign Negative (take (i + 1) s.leaps) = omega (arith, p.sum, e, sign_count (get_or ls i no_leap).sign, of_sign_next Negative ls i h) in
    let ups = set new (258 + n) (n - d) in
    let l : length ups ≡ 1669 = length-set new (258 + n) (n - d) ∙ p.within.size ∙ size in
    record {
      within = within_one (within_one p.within (258 + n) (n - d) (omega arith) (omega arith)) (516 + n) d (omega arith) (omega arith);
      place = omega arith;
      sum = sum;
      few = omega (arith, p.few);
      ups = λ k b.
          get_or-set_other ups (516 + n) (258 + k) d 0 (λ z. omega arith)
          ∙ last_stored (λ j x. x ≡ of_sign Positive (take j ls)) (λ j. 258 + j) new n (n - d) (omega (arith, p.within.size)) (λ j c z. omega arith) (λ j c. p.ups j (omega arith))
          (sym (rest_positive ls n (omega arith) ∙ ap (λ x. n - x) (sym sum))) k b;
      downs = λ k b.
          last_stored (λ j x. x ≡ of_sign Negative (take j ls)) (λ j. 516 + j) ups n d (omega (arith, l)) (λ j c z. omega arith)
          (λ j c. get_or-set_other new (258 + n) (516 + j) (n - d) 0 (λ z. omega arith) ∙ p.downs j (omega arith)) sum k b;
      small = λ k a b. stored (λ x. x ≤ 256) ups (516 + n) d k (stored (λ x. x ≤ 256) new (258 + n) (n - d) k (p.small k a b) (λ z. omega arith)) (λ z. omega (arith, p.few));
    }

pub tallying_all : {s : Schedule} {old new : List ℕ} {down i : ℕ} → Tallying s old new down i → length s.leaps ≤ i → Within 258 774 old new × Tallies s new × Small new
tallying_all p h = (
  p.within,
  record { ups = λ k l. p.ups k (omega arith); downs = λ k l. p.downs k (omega arith) },
  record { tallies = p.small },
)

-- ---- where to start looking, up to span i

pub record Guessing (old new : List ℕ) (at i : ℕ) : Type 0 where
  pub within : Within 774 1668 old new
  pub room : at ≤ 256
  pub begun : start_at new at ≤ 128 * i
  pub guesses : Guesses new

pub guessing_none : (old : List ℕ) → Fenced old → Clear 774 1668 old → Guessing old old 0 322
guessing_none old f c =
    let zeros : (i : ℕ) → i < 894 → guess_at old i ≡ 0 = λ i h. c.zero_at (774 + i) (omega arith) (omega arith) in
    record {
      within = within_none old;
      room = omega arith;
      begun = omega (arith, f.first);
      guesses = record { room = λ i h. omega (arith, zeros i h); begun = λ i h. rw (zeros i h, f.first) (omega arith) };
    }

pub guessing_one : {old new : List ℕ} {at i : ℕ} → Guessing old new at i → i < 894 → (r : ℕ) → Stretch new (128 * i) r → Guessing old (set new (774 + i) r) r (i + 1)
guessing_one {old} {new} {at} {i} p h r q =
    let same : (k : ℕ) → k ≤ 256 → start_at (set new (774 + i) r) k ≡ start_at new k = λ k l. get_or-set_other new (774 + i) k r 0 (λ z. omega arith) in
    record {
      within = within_one p.within (774 + i) r (omega arith) (omega arith);
      room = q.room;
      begun = rw (same r q.room) (omega (arith, q.begun));
      guesses = record {
        room = λ k l. stored (λ x. x ≤ 256) new (774 + i) r (774 + k) (p.guesses.room k l) (λ z. q.room);
        begun = λ k l.
            stored (λ x. start_at (set new (774 + i) r) x ≤ 128 * k) new (774 + i) r (774 + k) (rw (same (guess_at new k) (p.guesses.room k l)) (p.guesses.begun k l))
            (λ z. let e : k ≡ i = omega arith in rw (e, same r q.room) q.begun);
      };
    }

-- ---- the list, prepared: its last day and its four parts are laid one after the other in a clear array

pub all_clear : (length {A = ℕ} (replicate 1669 0) ≡ 1669) × Clear 0 1669 (replicate 1669 0)
all_clear = (length-replicate {A = ℕ} 1669 0, record { zero_at = λ k a b. get_or-replicate {A = ℕ} 1669 k 0 0 b })

-- what stands below a part or beyond it stays
clear_beyond : {from to : ℕ} {old new : List ℕ} → Within from to old new → (a b : ℕ) → to ≤ a → Clear a b old → Clear a b new
clear_beyond p a b t c = record { zero_at = λ k h l. p.beyond k (omega arith) ∙ c.zero_at k h l }

starts_below : {s : Schedule} {from to : ℕ} {old new : List ℕ} → length s.leaps ≤ 256 → Within from to old new → 258 ≤ from → Starts s old → Starts s new
starts_below room p f q =
    record { leaps = λ i h. p.below (i + 1) (omega arith) ∙ q.leaps i h; beyond = λ i h r. p.below (i + 1) (omega arith) ∙ q.beyond i h r }

fenced_below : {from to : ℕ} {old new : List ℕ} → Within from to old new → 258 ≤ from → Fenced old → Fenced new
fenced_below p f q = record { first = p.below 0 (omega arith) ∙ q.first; end = p.below 257 (omega arith) ∙ q.end }

tallies_below : {s : Schedule} {from to : ℕ} {old new : List ℕ} → length s.leaps ≤ 256 → Within from to old new → 774 ≤ from → Tallies s old → Tallies s new
tallies_below room p f q =
    record { ups = λ i h. p.below (258 + i) (omega arith) ∙ q.ups i h; downs = λ i h. p.below (516 + i) (omega arith) ∙ q.downs i h }

small_below : {from to : ℕ} {old new : List ℕ} → Within from to old new → 774 ≤ from → Small old → Small new
small_below p f q = record { tallies = λ k a b. rw (p.below k (omega arith)) (q.tallies k a b) }

module _ (s : Schedule) (w : well_formed s ≡ true) {last : ℕ} (l : last ≡ last_day s)
    (blank : List ℕ) (size : length blank ≡ 1669) (zeros : Clear 0 1669 blank) where
  abbrev dated : List ℕ
  dated = set blank 1668 last

  pub dated_size : length dated ≡ 1669
  dated_size = length-set blank 1668 last ∙ size

  dated_clear : Clear 0 1668 dated
  dated_clear = record { zero_at = λ k a b. get_or-set_other blank 1668 k last 0 (λ z. omega arith) ∙ zeros.zero_at k a (omega arith) }

  part_clear : (a b : ℕ) → b ≤ 1668 → Clear a b dated
  part_clear a b h = record { zero_at = λ k f t. dated_clear.zero_at k (omega arith) (omega arith) }

  module _ {a b : List ℕ} (f : Within 1 258 dated a × Empty a) (g : Within 1 258 a b × Starts s b) where
    pub far_size : length a ≡ 1669
    far_size = f.0.size ∙ dated_size

    pub starts_size : length b ≡ 1669
    starts_size = g.0.size ∙ far_size

    starts_clear : (from to : ℕ) → 258 ≤ from → to ≤ 1668 → Clear from to b
    starts_clear from to h t = clear_beyond g.0 from to h (clear_beyond f.0 from to h (part_clear from to t))

    pub tallies_clear : Clear 258 774 b
    tallies_clear = starts_clear 258 774 (omega arith) (omega arith)

    room : length s.leaps ≤ 256
    room = (parts s w).room

    starts_fenced : Fenced b
    starts_fenced =
        record {
          first = g.0.below 0 (omega arith) ∙ (f.0.below 0 (omega arith) ∙ dated_clear.zero_at 0 (omega arith) (omega arith));
          end = g.1.beyond 256 room (omega arith);
        }

    module _ {c : List ℕ} (h : Within 258 774 b c × Tallies s c × Small c) where
      pub tallies_size : length c ≡ 1669
      tallies_size = h.0.size ∙ starts_size

      pub tallies_fenced : Fenced c
      tallies_fenced = fenced_below h.0 (omega arith) starts_fenced

      last_kept : last_of c ≡ last
      last_kept =
          h.0.beyond 1668 (omega arith)
          ∙ (g.0.beyond 1668 (omega arith) ∙ (f.0.beyond 1668 (omega arith) ∙ get_or-set_same blank 1668 last 0 (omega (arith, size))))

      pub last_inside : last_of c < end_day
      last_inside = omega (arith, last_kept, l, last_before s w)

      pub guesses_clear : Clear 774 1668 c
      guesses_clear = clear_beyond h.0 774 1668 (omega arith) (starts_clear 774 1668 (omega arith) (omega arith))

      pub list_prepared : {d : List ℕ} → Within 774 1668 c d × Guesses d → Ready d × Prepared s d
      list_prepared {d} k =
          let last-is : last_of d ≡ last = k.0.beyond 1668 (omega arith) ∙ last_kept in (
            record {
              fenced = fenced_below k.0 (omega arith) tallies_fenced;
              guessed = k.1;
              inside = omega (arith, last-is, l, last_before s w);
              small = small_below k.0 (omega arith) h.2;
            },
            record {
              well = w;
              is_last = last-is ∙ l;
              starting = starts_below room k.0 (omega arith) (starts_below room h.0 (omega arith) g.1);
              tallied = tallies_below room k.0 (omega arith) h.1;
            },
          )
