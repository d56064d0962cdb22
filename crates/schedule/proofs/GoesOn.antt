-- Whether a list extends another, by their words: the longer one has the shorter one's leaps first, and its next leap, if there is one, lies at the
-- shorter one's expiry or after it.
-- Assumes nothing.
use Rattle.std.proofs.Common.{◌≡◌, ℕ, zero, suc, ◌+◌, ◌*◌, ◌/◌, ◌%◌, ◌<◌, ◌≤◌, min, Bool, true, false, not, List, [], ◌∷◌, ◌++◌, length, get_or, take, drop, sym, ap, ◌∙◌, ap₂, le_of_suc-le-suc, not-suc-le-zero, add-one, arith, length-append, take-append-drop, drop_of_length-le, length-take-le, get_or-take, take_at, get_or-append-add, ext_get_or}
use Rattle.std.specs.Str.{bytes_eq}
use Rattle.std.proofs.lemmas.Slice.Eq.{bytes_eq-Decides}
use native.Mathlib.Decide.{dec_lt}
use Rattle.schedule.specs.Schedule.{Leap, last_month, month_start, no_leap, is_expired, gaps_fit, well_formed}
use Rattle.schedule.specs.WordLayout.{count_word, sign_of, meant, word_of_sign}
use Rattle.schedule.specs.Extends.{Extends, extends}
use Rattle.schedule.specs.Rules.{AllFrom, ExtendsBy}
use Rattle.schedule.proofs.Cases.{by_bool}
use Rattle.schedule.proofs.Expired.{expired_from, known_until, expired_past}
use Rattle.schedule.proofs.Gaps.{later, parts}
use Rattle.schedule.proofs.Formed.{in_use}
use Rattle.schedule.proofs.Extension.{tests, fails}
use Rattle.schedule.proofs.InWords.{extends_exactly, rising_from}
use Rattle.schedule.proofs.Meant.{all_there, count_is, count_room, month_word_lem, sign_word, leap_at_lem}
use Rattle.schedule.proofs.WordLayout.{month_in_place, sign_in_place}

-- the gaps after leap i
gaps_after : (ls : List Leap) (from e i : ℕ) → gaps_fit from ls e ≡ true → i < length ls → gaps_fit (get_or ls i no_leap).month (drop (suc i) ls) e ≡ true
gaps_after [] from e i f h = absurd (not-suc-le-zero h)
gaps_after (l ∷ ls) from e zero f h = later from l ls e f
gaps_after (l ∷ ls) from e (suc i) f h = gaps_after ls l.month e i (later from l ls e f) (le_of_suc-le-suc h)

leap_path : {l k : Leap} → l.month ≡ k.month → l.sign ≡ k.sign → l ≡ k
leap_path p q = λ i. record { month = p i; sign = q i }

-- the first of some leaps
first_from : (day : ℕ) (ls : List Leap) → 0 < length ls → AllFrom day ls → day ≤ month_start (get_or ls 0 no_leap).month
first_from day [] h f = absurd (omega arith)
first_from day (l ∷ ls) h f = f.0

-- what the code's comparison of the first words says
module _ {xs ys : List ℕ} {other : Bool} (e : other ≡ not (bytes_eq xs ys)) where
  pub unlike : other ≡ true → xs ≡ ys → ⊥
  unlike t p = let d = (bytes_eq-Decides xs ys).1 p in absurd cc

  pub alike : other ≡ false → xs ≡ ys
  alike f = (bytes_eq-Decides xs ys).0 (by_bool (bytes_eq xs ys) (λ t. t) (λ n. let z = rw n at e in absurd cc))

module _ (a b : List ℕ) (wa : well_formed (meant a) ≡ true) (wb : well_formed (meant b) ≡ true) where
  abbrev pub Same : Type 0
  Same = take (2 * count_word b) a ≡ take (2 * count_word b) b

  by_further : Extends (meant a) (meant b) → (further : List Leap) × ExtendsBy (meant a) (meant b) further
  by_further x = (extends_exactly (meant a) (meant b) wa wb).0 x

  -- the leaps of a list that extends another are the other's and further ones
  module _ (further : List Leap) (x : ExtendsBy (meant a) (meant b) further) where
    enough : count_word b + length further ≡ count_word a
    enough = omega (arith, count_is a wa, count_is b wb, ap length x.same, length-append (meant b).leaps further)

    same_leap_lem : (i : ℕ) → i < count_word b → get_or (meant a).leaps i no_leap ≡ get_or (meant b).leaps i no_leap
    same_leap_lem i h =
        sym (get_or-take (count_word b) (meant a).leaps i no_leap h)
        ∙ ap (λ (ls : List Leap). get_or ls i no_leap) (ap (take (count_word b)) x.same ∙ take_at (meant b).leaps further (count_word b) (count_is b wb))

    each_word : (k : ℕ) → k < 2 * count_word b → get_or a k 0 ≡ get_or b k 0
    each_word k h =
        let i = k / 2 in
        let j : i < count_word b = omega arith in
        elim (dec_lt (k % 2) 1) [
          | yes l ↦
              let z : k ≡ 2 * i = omega arith in
              rw z (month_word_lem a wa i (omega (arith, enough)) ∙ (ap (λ (l : Leap). l.month) (same_leap_lem i j) ∙ sym (month_word_lem b wb i j)))
          | no l ↦
              let z : k ≡ 2 * i + 1 = omega arith in
              rw z (sign_word a wa i (omega (arith, enough)) ∙ (ap (λ (l : Leap). word_of_sign l.sign) (same_leap_lem i j) ∙ sym (sign_word b wb i j)))
        ]

    same_words_lem : Same
    same_words_lem =
        let n = 2 * count_word b in
        let room : n ≤ 514 = omega (arith, count_room b wb) in
        let ta : length (take n a) ≡ n = length-take-le n a (omega (arith, all_there a wa)) in
        let tb : length (take n b) ≡ n = length-take-le n b (omega (arith, all_there b wb)) in
        ext_get_or 0 (take n a) (take n b) (ta ∙ sym tb)
        (λ k h.
        let small : k < n = omega arith in
        get_or-take n a k 0 small ∙ (each_word k small ∙ sym (get_or-take n b k 0 small)))

    next : count_word b < count_word a → (meant b).expiry ≤ month_start (get_or (meant a).leaps (count_word b) no_leap).month
    next h =
        let z : length (meant b).leaps + 0 ≡ count_word b = omega (arith, count_is b wb) in
        let place : get_or (meant a).leaps (count_word b) no_leap ≡ get_or further 0 no_leap =
        ap (λ (ls : List Leap). get_or ls (count_word b) no_leap) x.same
        ∙ (ap (λ (n : ℕ). get_or ((meant b).leaps ++ further) n no_leap) (sym z) ∙ get_or-append-add (meant b).leaps further 0 no_leap) in
        rw place (first_from (meant b).expiry further (omega (arith, enough)) x.from)

  -- fewer leaps do not extend
  pub fewer : count_word a < count_word b → extends (meant a) (meant b) ≡ false
  fewer h = fails (λ x. let f = by_further x in absurd (omega (arith, enough f.0 f.1)))

  -- nor other ones
  pub others : (Same → ⊥) → extends (meant a) (meant b) ≡ false
  others n = fails (λ x. let f = by_further x in n (same_words_lem f.0 f.1))

  -- nor a further one below the expiry
  pub too_early : count_word b < count_word a → is_expired (meant b).expiry (get_or (meant a).leaps (count_word b) no_leap).month ≡ false → extends (meant a) (meant b) ≡ false
  too_early h e = fails (λ x. let f = by_further x in absurd (omega (arith, next f.0 f.1 h, known_until (meant b).expiry (get_or (meant a).leaps (count_word b) no_leap).month e)))

  -- the same leaps, and further ones, if any, from the expiry on
  module _ (later-expiry : (meant b).expiry ≤ (meant a).expiry) (room : count_word b ≤ count_word a) (same : Same) where
    same_at : (k : ℕ) → k < 2 * count_word b → get_or a k 0 ≡ get_or b k 0
    same_at k h =
        sym (get_or-take (2 * count_word b) a k 0 h) ∙ (ap (λ (ws : List ℕ). get_or ws k 0) same ∙ get_or-take (2 * count_word b) b k 0 h)

    leap_same : (i : ℕ) → i < count_word b → get_or (meant a).leaps i no_leap ≡ get_or (meant b).leaps i no_leap
    leap_same i h =
        let small : i < 256 = omega (arith, count_room b wb) in
        leap_at_lem a wa i
        ∙ (leap_path (month_in_place a i small ∙ (same_at (2 * i) (omega arith) ∙ sym (month_in_place b i small)))
        (ap sign_of (sign_in_place a i small ∙ (same_at (2 * i + 1) (omega arith) ∙ sym (sign_in_place b i small))))
        ∙ sym (leap_at_lem b wb i))

    first_leaps : take (count_word b) (meant a).leaps ≡ (meant b).leaps
    first_leaps =
        let n : length (take (count_word b) (meant a).leaps) ≡ count_word b = length-take-le (count_word b) (meant a).leaps (omega (arith, count_is a wa)) in
        ext_get_or no_leap (take (count_word b) (meant a).leaps) (meant b).leaps (n ∙ sym (count_is b wb))
        (λ i h. get_or-take (count_word b) (meant a).leaps i no_leap (omega arith) ∙ leap_same i (omega arith))

    goes : AllFrom (meant b).expiry (drop (count_word b) (meant a).leaps) → extends (meant a) (meant b) ≡ true
    goes f =
        tests ((extends_exactly (meant a) (meant b) wa wb).1 (
          drop (count_word b) (meant a).leaps,
          record {
            same = sym (take-append-drop (count_word b) (meant a).leaps) ∙ ap (λ (ls : List Leap). ls ++ drop (count_word b) (meant a).leaps) first_leaps;
            from = f;
            later = later-expiry;
          },
        ))

    pub as_many : count_word a ≤ count_word b → extends (meant a) (meant b) ≡ true
    as_many h = goes (rw (drop_of_length-le (meant a).leaps (let l : length (meant a).leaps ≤ count_word b = omega (arith, count_is a wa) in l)) tt)

    pub goes_on : count_word b < count_word a → is_expired (meant b).expiry (get_or (meant a).leaps (count_word b) no_leap).month ≡ true → extends (meant a) (meant b) ≡ true
    goes_on h e =
        let far = expired_from (meant b).expiry (get_or (meant a).leaps (count_word b) no_leap).month e in
        let in-range : count_word b < length (meant a).leaps = omega (arith, count_is a wa) in
        goes (rw (in_use (meant a) (count_word b) in-range) (
          far,
          rising_from (meant b).expiry (get_or (meant a).leaps (count_word b) no_leap).month (drop (count_word b + 1) (meant a).leaps) (meant a).expiry
              (rw add-one (gaps_after (meant a).leaps 0 (meant a).expiry (count_word b) (parts (meant a) wa).gaps in-range)) far,
        ))

    -- so the next leap's month tells, as the code asks about it
    pub tells : count_word b < count_word a → {expiry month : ℕ} → expiry ≡ (meant b).expiry → month ≡ (get_or (meant a).leaps (count_word b) no_leap).month
        → is_expired expiry (min month last_month) ≡ extends (meant a) (meant b)
    tells h {expiry} {month} e m =
        expired_past expiry month (omega (arith, (parts (meant b) wb).end))
        ∙ (ap₂ is_expired e m
        ∙ by_bool (is_expired (meant b).expiry (get_or (meant a).leaps (count_word b) no_leap).month) (λ t. t ∙ sym (goes_on h t)) (λ f. f ∙ sym (too_early h f)))
