-- The reading of a text is what the rules of the list say: a list is taken, with its schedule, and anything else is refused at its first fault from
-- the left, with that fault's number and place, whatever follows.
-- Assumes nothing.
use Rattle.std.proofs.Common.{◌≡◌, ℕ, ◌+◌, ◌*◌, ◌<◌, ◌≤◌, true, false, leb, ltb, eqb, ◌≢◌, ◌⊎◌, ◌↔◌, List, [], ◌∷◌, ◌++◌, Some, None, length, sym, refl, ap, ◌∙◌, inl, inr, true≢false, append_assoc, append-nil, pos_of_ne-zero, arith, length-append, ltb-false, ltb-true, le-ltb, ne_eqb, eqb-true, le-leb, leb-false, leb-true}
use borrow.Author.Tests.{eqb-false, lt-leb}
use Rattle.ascii.specs.Decimal.{decimal}
use Rattle.schedule.specs.declared.Sign.{Sign}
use Rattle.schedule.specs.declared.Sign.TheVariants.{Positive, Negative}
use Rattle.schedule.specs.declared.Leap.{Leap}
use Rattle.schedule.specs.Schedule.{Schedule, month_start, blank_schedule}
use Rattle.schedule.specs.Answers.{Reading, refusal, with_leap}
use Rattle.schedule.proofs.Cases.{by_bool, by_cond}
use Rattle.text.specs.declared.Mark.TheVariants.{Leaps, Expires}
use Rattle.text.specs.Bytes.{is_digit, digit_of, mark_of, sign_byte}
use Rattle.text.specs.Read.{may_follow, at_end, read_from, read_text}
use Rattle.text.specs.Rules.{Digit, NoDigit, IsSign, plus, minus, Awaited, gap, mark, SoFar, start, then_gap, then_sign, IsList, list, Fault, ends, no_gap, no_mark, zero, fourth_digit, past_2400, leap_257, after_end, Ruled, taken, stopped}
use Rattle.text.specs.Write.{digits}
use Rattle.text.proofs.Back.{gap_back, leap_back, end_back}
use Rattle.text.proofs.Cases.{by_mark_exactly}
use Rattle.text.proofs.Digits.{three, in_decimal}
use Rattle.text.proofs.Follow.{digit_low, digit_high, makes_gap}
use Rattle.text.proofs.Spelling.{sign_byte_lem, end_byte_lem, spelled, spelled_none, spelled_some, digit_read}

-- ---- after a list so far the reading goes on with what is due

-- the leaps so far, in a schedule that has no expiry yet
abbrev with_no_end : List Leap → Schedule
with_no_end leaps = record { leaps = leaps; expiry = 0 }

-- a mark is due after a gap
record AfterGap (bytes : List ℕ) (month : ℕ) (leaps : List Leap) : Type 0 where
  before : ℕ
  gap : ℕ
  some : 0 < gap
  sum : before + gap ≡ month
  goes_on : (rest : List ℕ) → read_text (bytes ++ rest) ≡ read_from gap (length bytes) before (with_no_end leaps) rest

abbrev GoesOn : Awaited → List ℕ → ℕ → List Leap → Type 0
GoesOn gap bytes months leaps = (rest : List ℕ) → read_text (bytes ++ rest) ≡ read_from 0 (length bytes) months (with_no_end leaps) rest
GoesOn mark bytes months leaps = AfterGap bytes months leaps

sign_is : {b : ℕ} {sign : Sign} → IsSign b sign → b ≡ sign_byte sign
sign_is plus = refl
sign_is minus = refl

goes_on : {due : Awaited} {bytes : List ℕ} {months : ℕ} {leaps : List Leap} → SoFar due bytes months leaps → GoesOn due bytes months leaps
unfolding read_text
goes_on start = λ rest. refl
goes_on (then_gap {bytes} {months} {leaps} so g low high) =
    record {
      before = months;
      gap = g;
      some = omega arith;
      sum = refl;
      goes_on = λ rest.
          ap read_text (append_assoc bytes (decimal g) rest)
          ∙ (goes_on so (decimal g ++ rest)
          ∙ rw (in_decimal g high)
          (gap_back g (length bytes) months (with_no_end leaps) rest (omega arith) high
          ∙ ap (λ (p : ℕ). read_from g p months (with_no_end leaps) rest) (sym (length-append bytes (digits g)))));
    }
goes_on (then_sign {bytes} {month} {leaps} so few room b sign i) =
    λ rest.
    let a = goes_on so in
    ap read_text (append_assoc bytes (b ∷ []) rest)
    ∙ (a.goes_on (b ∷ rest)
    ∙ (ap (λ (x : ℕ). read_from a.gap (length bytes) a.before (with_no_end leaps) (x ∷ rest)) (sign_is i)
    ∙ (leap_back a.gap (length bytes) a.before month (with_no_end leaps) sign rest a.some a.sum few room
    ∙ ap (λ (p : ℕ). read_from 0 p month (with_leap (with_no_end leaps) month sign) rest) (sym (length-append bytes (b ∷ []))))))

-- ---- a list is taken, and a fault is refused

after_gap : {bytes : List ℕ} {month : ℕ} {leaps : List Leap} → SoFar mark bytes month leaps → AfterGap bytes month leaps
after_gap so = goes_on so

no_digit : (b : ℕ) → NoDigit b → is_digit b ≡ false
no_digit b (inl h) = simp (lt-leb 48 b h)
no_digit b (inr h) = by_bool (leb 48 b) (λ e. simp (e, lt-leb b 57 h)) (λ e. simp e)

a_digit : (b : ℕ) → Digit b → is_digit b ≡ true
a_digit b h = simp (le-leb 48 b h.0, le-leb b 57 h.1)

-- a list is taken with its schedule
pub list_taken : {bytes : List ℕ} {s : Schedule} → IsList bytes s → read_text bytes ≡ record { number = 0; place = 0; schedule = s }
list_taken (list {bytes} {month} {leaps} so few) =
    let a = after_gap so in
    a.goes_on (63 ∷ []) ∙ end_back a.gap (length bytes) a.before month (with_no_end leaps) a.some a.sum few

-- at a mark
module _ (g p t month b : ℕ) (s : Schedule) (rest : List ℕ) (some : 0 < g) (sum : t + g ≡ month) where
  too_far : 2400 < month → (b ≡ 43) ⊎ ((b ≡ 45) ⊎ (b ≡ 63)) → read_from g p t s (b ∷ rest) ≡ refusal 4 p
  unfolding read_from
  too_far h (inl e) = simp (e, ne_eqb g 0 (λ z. omega arith), sum, lt-leb month 2400 h)
  too_far h (inr (inl e)) = simp (e, ne_eqb g 0 (λ z. omega arith), sum, lt-leb month 2400 h)
  too_far h (inr (inr e)) = simp (e, ne_eqb g 0 (λ z. omega arith), sum, lt-leb month 2400 h)

  too_many : month ≤ 2400 → 256 ≤ length s.leaps → (b ≡ 43) ⊎ (b ≡ 45) → read_from g p t s (b ∷ rest) ≡ refusal 5 p
  unfolding read_from
  too_many h k (inl e) = simp (e, ne_eqb g 0 (λ z. omega arith), sum, le-leb month 2400 h, le-ltb (length s.leaps) 256 k)
  too_many h k (inr e) = simp (e, ne_eqb g 0 (λ z. omega arith), sum, le-leb month 2400 h, le-ltb (length s.leaps) 256 k)

  something_after : month ≤ 2400 → read_from g p t s (63 ∷ b ∷ rest) ≡ refusal 6 (p + 1)
  unfolding read_from
  something_after h = simp (ne_eqb g 0 (λ z. omega arith), sum, le-leb month 2400 h)

  not_a_mark : NoDigit b → b ≢ 43 → b ≢ 45 → b ≢ 63 → read_from g p t s (b ∷ rest) ≡ refusal 2 p
  unfolding read_from
  not_a_mark d u v w = simp (no_digit b d, ne_eqb g 0 (λ z. omega arith), ne_eqb b 43 u, ne_eqb b 45 v, ne_eqb b 63 w)

not_a_gap : (b p t : ℕ) (s : Schedule) (rest : List ℕ) → NoDigit b → read_from 0 p t s (b ∷ rest) ≡ refusal 2 p
unfolding read_from
not_a_gap b p t s rest d = simp (no_digit b d)

no_zero : (p t : ℕ) (s : Schedule) (rest : List ℕ) → read_from 0 p t s (48 ∷ rest) ≡ refusal 3 p
unfolding read_from
no_zero p t s rest = refl

no_fourth : (g b p t : ℕ) (s : Schedule) (rest : List ℕ) → 100 ≤ g → Digit b → read_from g p t s (b ∷ rest) ≡ refusal 3 p
unfolding read_from
no_fourth g b p t s rest h d = simp (a_digit b d, ne_eqb g 0 (λ z. omega arith), le-ltb g 100 h)

nothing_left : (g p t : ℕ) (s : Schedule) → read_from g p t s [] ≡ refusal 1 p
unfolding read_from
nothing_left g p t s = refl

-- a fault is refused with its number and its place, and the blank schedule
pub fault_refused : {bytes : List ℕ} {number place : ℕ} → Fault bytes number place → read_text bytes ≡ record { number = number; place = place; schedule = blank_schedule }
fault_refused (ends {due} {bytes} {months} {leaps} so) = ap read_text (sym (append-nil bytes)) ∙ early due so
  where
    early : (due : Awaited) → SoFar due bytes months leaps → read_text (bytes ++ []) ≡ refusal 1 (length bytes)
    early gap so = goes_on so [] ∙ nothing_left 0 (length bytes) months (with_no_end leaps)
    early mark so = let a = after_gap so in a.goes_on [] ∙ nothing_left a.gap (length bytes) a.before (with_no_end leaps)
fault_refused (no_gap {bytes} {months} {leaps} so b rest d) = goes_on so (b ∷ rest) ∙ not_a_gap b (length bytes) months (with_no_end leaps) rest d
fault_refused (no_mark {bytes} {month} {leaps} so b rest d u v w) =
    let a = after_gap so in
    a.goes_on (b ∷ rest) ∙ not_a_mark a.gap (length bytes) a.before month b (with_no_end leaps) rest a.some a.sum d u v w
fault_refused (zero {bytes} {months} {leaps} so rest) = goes_on so (48 ∷ rest) ∙ no_zero (length bytes) months (with_no_end leaps) rest
fault_refused (fourth_digit {bytes} {months} {leaps} so g low high b rest d) =
    let three_long : length (digits g) ≡ 3 = ap length (three g low) in
    goes_on so (decimal g ++ (b ∷ rest))
    ∙ rw (in_decimal g high)
    (gap_back g (length bytes) months (with_no_end leaps) (b ∷ rest) (omega arith) high
    ∙ (no_fourth g b (length bytes + length (digits g)) months (with_no_end leaps) rest low d ∙ rw three_long refl))
fault_refused (past_2400 {bytes} {month} {leaps} so h b rest m) =
    let a = after_gap so in
    a.goes_on (b ∷ rest) ∙ too_far a.gap (length bytes) a.before month b (with_no_end leaps) rest a.some a.sum h m
fault_refused (leap_257 {bytes} {month} {leaps} so h k b rest m) =
    let a = after_gap so in
    a.goes_on (b ∷ rest) ∙ too_many a.gap (length bytes) a.before month b (with_no_end leaps) rest a.some a.sum h k m
fault_refused (after_end {bytes} {month} {leaps} so h b rest) =
    let a = after_gap so in
    a.goes_on (63 ∷ b ∷ rest) ∙ something_after a.gap (length bytes) a.before month b (with_no_end leaps) rest a.some a.sum h

-- ---- and every text is one of the two

at_fault : {whole bytes : List ℕ} {n p place : ℕ} → whole ≡ bytes → place ≡ p → Fault bytes n p → Ruled whole (refusal n place)
at_fault e h f = rw (e, h) (stopped f)

digit_bounds : (b : ℕ) → is_digit b ≡ true → Digit b
digit_bounds b h = (digit_low b h, digit_high b h)

none_there : (b : ℕ) → is_digit b ≡ false → NoDigit b
none_there b h =
    by_bool (leb 48 b)
    (λ low. by_bool (leb b 57) (λ high. absurd (true≢false (simp (low, high) at h))) (λ high. inr (leb-false b 57 high)))
    (λ low. inl (leb-false 48 b low))

-- a digit that may not follow: a "0" where a gap starts, or a fourth digit
bad_digit : (g b : ℕ) (bs pre whole : List ℕ) (place total : ℕ) (leaps : List Leap) → g ≤ 999 → SoFar gap pre total leaps → is_digit b ≡ true → may_follow g b ≡ false
    → whole ≡ pre ++ (spelled g ++ (b ∷ bs)) → place ≡ length pre + length (spelled g) → Ruled whole (refusal 3 place)
bad_digit g b bs pre whole place total leaps most so i f w h =
    by_bool (eqb g 0)
    (λ z. let none = spelled_none g (eqb-true g 0 z) in
    by_bool (eqb b 48)
    (λ y. at_fault (w ∙ rw (none, eqb-true b 48 y) refl) (h ∙ rw none (omega arith)) (zero so bs))
    (λ y. absurd (true≢false (simp (z, y) at f))))
    (λ z. let some = pos_of_ne-zero (eqb-false g 0 z) in
    by_bool (ltb g 100)
    (λ y. absurd (true≢false (simp (z, y) at f)))
    (λ y. let low = ltb-false g 100 y in
    let three_long : length (digits g) ≡ 3 = ap length (three g low) in
    at_fault (w ∙ rw (spelled_some g some, in_decimal g most) refl) (h ∙ rw (spelled_some g some, three_long) refl) (fourth_digit so g low most b bs (digit_bounds b i))))

sign_there : (b : ℕ) (k : Sign) → b ≡ sign_byte k → IsSign b k
sign_there b Positive e = rw e plus
sign_there b Negative e = rw e minus

a_sign : (b : ℕ) (k : Sign) → b ≡ sign_byte k → (b ≡ 43) ⊎ (b ≡ 45)
a_sign b Positive e = inl e
a_sign b Negative e = inr e

either : {b : ℕ} → (b ≡ 43) ⊎ (b ≡ 45) → (b ≡ 43) ⊎ ((b ≡ 45) ⊎ (b ≡ 63))
either (inl e) = inl e
either (inr e) = inr (inl e)

-- neither a sign nor a "?"
neither : (b : ℕ) → mark_of b ≡ None → (b ≢ 43) × (b ≢ 45) × (b ≢ 63)
neither b m = (
  λ e. let x : Some (Leaps Positive) ≡ None = rw e at m in let y : true ≡ false = cc in true≢false y,
  λ e. let x : Some (Leaps Negative) ≡ None = rw e at m in let y : true ≡ false = cc in true≢false y,
  λ e. let x : Some Expires ≡ None = rw e at m in let y : true ≡ false = cc in true≢false y,
)

-- after the "?"
ended : (bs : List ℕ) {bytes whole : List ℕ} {place month : ℕ} {leaps : List Leap} → SoFar mark bytes month leaps → month ≤ 2400 → whole ≡ bytes ++ (63 ∷ bs) → place ≡ length bytes + 1
    → Ruled whole (at_end place (with_no_end leaps) (month_start month) bs)
ended [] so few w h = rw w (taken (list so few))
ended (b ∷ bs) so few w h = at_fault w h (after_end so few b bs)

-- a gap that may be there, by its digits
then_digits : {bytes : List ℕ} {months : ℕ} {leaps : List Leap} → SoFar gap bytes months leaps → (g : ℕ) → 0 < g → g ≤ 999 → SoFar mark (bytes ++ digits g) (months + g) leaps
then_digits so g some most = rw (in_decimal g most) at (then_gap so g some most)

ruled : (bs : List ℕ) (g place total : ℕ) (leaps : List Leap) (pre whole : List ℕ) → whole ≡ pre ++ (spelled g ++ bs) → place ≡ length pre + length (spelled g) → g ≤ 999 → SoFar gap pre total leaps
    → Ruled whole (read_from g place total (with_no_end leaps) bs)
unfolding read_from
ruled [] g place total leaps pre whole w h most so =
    by_bool (eqb g 0)
    (λ z. let none = spelled_none g (eqb-true g 0 z) in
    at_fault (w ∙ rw none (append-nil pre)) (h ∙ rw none (omega arith)) (ends so))
    (λ z. let some = pos_of_ne-zero (eqb-false g 0 z) in
    at_fault (w ∙ rw (spelled_some g some) (rw (append-nil (digits g)) refl)) (h ∙ rw (spelled_some g some) (sym (length-append pre (digits g)))) (ends (then_digits so g some most)))
ruled (b ∷ bs) g place total leaps pre whole w h most so =
    by_cond (Ruled whole) (is_digit b)
    (λ i. by_cond (Ruled whole) (may_follow g b)
    (λ f. let n = length-append (spelled g) (b ∷ []) in
    let m = length-append (spelled (g * 10 + digit_of b)) [] in
    let longer : length (spelled g ++ (b ∷ [])) ≡ length (spelled (g * 10 + digit_of b) ++ []) = ap length (digit_read g b [] [] i f) in
    ruled bs (g * 10 + digit_of b) (place + 1) total leaps pre whole (w ∙ digit_read g b bs pre i f) (omega arith) (makes_gap g b i f).1 so)
    (λ f. bad_digit g b bs pre whole place total leaps most so i f w h))
    (λ n. by_cond (Ruled whole) (eqb g 0)
    (λ z. let none = spelled_none g (eqb-true g 0 z) in
    at_fault (w ∙ rw none refl) (h ∙ rw none (omega arith)) (no_gap so b bs (none_there b n)))
    (λ z.
    let some : 0 < g = pos_of_ne-zero (eqb-false g 0 z) in
    let here = then_digits so g some most in
    let at : place ≡ length (pre ++ digits g) = h ∙ rw (spelled_some g some) (sym (length-append pre (digits g))) in
    let v : whole ≡ (pre ++ digits g) ++ (b ∷ bs) = w ∙ rw (spelled_some g some) (sym (append_assoc pre (digits g) (b ∷ bs))) in
    by_mark_exactly (Ruled whole) (mark_of b)
    (λ m. let x = neither b m in at_fault v at (no_mark here b bs (none_there b n) x.0 x.1 x.2))
    (λ m. by_cond (Ruled whole) (leb (total + g) 2400)
    (λ k. ended bs here (leb-true (total + g) 2400 k) (rw (end_byte_lem b m) at v) (omega arith))
    (λ k. at_fault v at (past_2400 here (leb-false (total + g) 2400 k) b bs (inr (inr (end_byte_lem b m))))))
    (λ sign m.
    let is = sign_byte_lem b sign m in
    by_cond (Ruled whole) (leb (total + g) 2400)
    (λ k. by_cond (Ruled whole) (ltb (length leaps) 256)
    (λ r. ruled bs 0 (place + 1) (total + g) (leaps ++ (record { month = total + g; sign = sign } ∷ [])) ((pre ++ digits g) ++ (b ∷ [])) whole
    (v ∙ rw (spelled_none 0 refl) (sym (append_assoc (pre ++ digits g) (b ∷ []) bs)))
    (omega (arith, length-append (pre ++ digits g) (b ∷ []), ap length (spelled_none 0 refl)))
    (omega arith) (then_sign here (leb-true (total + g) 2400 k) (ltb-true (length leaps) 256 r) b sign (sign_there b sign is)))
    (λ r. at_fault v at (leap_257 here (leb-true (total + g) 2400 k) (ltb-false (length leaps) 256 r) b bs (a_sign b sign is))))
    (λ k. at_fault v at (past_2400 here (leb-false (total + g) 2400 k) b bs (either (a_sign b sign is)))))))

-- the numbers are 1 to 6
pub one_of_six : {bytes : List ℕ} {number place : ℕ} → Fault bytes number place → (1 ≤ number) × (number ≤ 6)
one_of_six (ends so) = (omega arith, omega arith)
one_of_six (no_gap so b rest d) = (omega arith, omega arith)
one_of_six (no_mark so b rest d u v w) = (omega arith, omega arith)
one_of_six (zero so rest) = (omega arith, omega arith)
one_of_six (fourth_digit so g l h b rest d) = (omega arith, omega arith)
one_of_six (past_2400 so h b rest m) = (omega arith, omega arith)
one_of_six (leap_257 so h k b rest m) = (omega arith, omega arith)
one_of_six (after_end so h b rest) = (omega arith, omega arith)

-- the reading of any bytes is what the rules say of them
pub by_the_rules : (bytes : List ℕ) → Ruled bytes (read_text bytes)
unfolding read_text
by_the_rules bytes = ruled bytes 0 0 0 [] [] bytes (rw (spelled_none 0 refl) refl) (rw (spelled_none 0 refl) refl) (omega arith) start

-- a text is taken as a schedule exactly when it is a list of that schedule
pub taken_exactly : (bytes : List ℕ) (s : Schedule) → (read_text bytes ≡ record { number = 0; place = 0; schedule = s }) ↔ IsList bytes s
taken_exactly bytes s = (λ e. go (by_the_rules bytes) e, list_taken)
  where
    go : {r : Reading} → Ruled bytes r → r ≡ record { number = 0; place = 0; schedule = s } → IsList bytes s
    go (taken l) e = rw (ap (λ (r : Reading). r.schedule) e) at l
    go (stopped f) e = absurd (omega (arith, one_of_six f, ap (λ (r : Reading). r.number) e))

-- it is refused with a number at a place exactly when its first fault from the left is that one
pub refused_exactly : (bytes : List ℕ) (number place : ℕ) → 0 < number → (read_text bytes ≡ record { number = number; place = place; schedule = blank_schedule }) ↔ Fault bytes number place
refused_exactly bytes number place some = (λ e. go (by_the_rules bytes) e, fault_refused)
  where
    go : {r : Reading} → Ruled bytes r → r ≡ record { number = number; place = place; schedule = blank_schedule } → Fault bytes number place
    go (taken l) e = absurd (omega (arith, ap (λ (r : Reading). r.number) e))
    go (stopped f) e = rw (ap (λ (r : Reading). r.number) e, ap (λ (r : Reading). r.place) e) at f
