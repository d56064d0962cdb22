-- What a line of a trace says, in the letters of the request: each kind of line says what it is to say, and no other line says it.
-- Assumes nothing.
use Prim.Native.Nat.{ℕ, ◌+◌, ◌-◌, ◌*◌, ◌≤◌}
use mathlib.Core.Path.{◌≡◌, refl, sym, ap, ◌∙◌}
use mathlib.Core.Bool.{true, and-eq-true_iff}
use Rattle.std.specs.Prelude.{Option, Some, None}
use mathlib.Core.List.{List, [], ◌∷◌, ◌++◌}
use mathlib.Core.Logic.{◌↔◌, ◌⊎◌, inl, inr}
use native.Mathlib.Omega.{arith}
use lib.Dec.{leb, eqb}
use lib.ListN.{length, length-append}
use borrow.Author.Tests.{eqb-true, ne_eqb, leb-true, le-leb}
use Rattle.ascii.specs.Ascii.{ascii, within}
use Rattle.ascii.specs.Decimal.{is_digit, all_digits, value_after}
use Rattle.ascii.specs.Lines.{space_byte}
use Rattle.ascii.specs.Parts.{parts}
use Rattle.ascii.proofs.Cases.{by_bool}
use Rattle.ascii.proofs.Digits.{few_digits, given_digits}
use Rattle.ascii.proofs.Fields.{has_no, part_before, part_alone, two_parts}
use Rattle.replay.specs.Trace.{Line, list, store, reset, question, other, letter_l, letter_s, letter_z, letter_q, max_line, max_digits, short_number, asks, question_of, alone, followed, line_of, meaning}

-- every byte is one of "0" to "9", which are 48 to 57
abbrev pub AllDigits : List ℕ → Type 0
AllDigits [] = Unit {0}
AllDigits (b ∷ bs) = (48 ≤ b) × (b ≤ 57) × AllDigits bs

-- a number of a question: 1 to 18 decimal digits, leading zeros or not, that mean n
pub record Digits (field : List ℕ) (n : ℕ) : Type 0 where
  pub some : 1 ≤ length field
  pub few : length field ≤ 18
  pub digits : AllDigits field
  pub value : value_after 0 field ≡ n

-- what digits mean: no digits 0, and one digit more ten times as much and that digit; so a leading zero changes nothing
pub no_digits : value_after 0 [] ≡ 0
unfolding value_after
no_digits = refl

pub one_digit_more : (xs : List ℕ) (d n : ℕ) → value_after n (xs ++ (d ∷ [])) ≡ value_after n xs * 10 + (d - 48)
unfolding value_after
one_digit_more [] d n = refl
one_digit_more (x ∷ xs) d n = one_digit_more xs d (n * 10 + (x - 48))

pub leading_zero : (field : List ℕ) → value_after 0 (48 ∷ field) ≡ value_after 0 field
unfolding value_after
leading_zero field = refl

-- the four kinds of lines, none of them of more than 4,096 bytes
pub data Says : List ℕ → Line → Type 0 where
  says_list : (bytes : List ℕ) → length (ascii "L " ++ bytes) ≤ 4096 → Says (ascii "L " ++ bytes) (list bytes)
  says_store : Says (ascii "S") store
  says_reset : Says (ascii "Z") reset
  says_question : (x y : List ℕ) {day t : ℕ} → Digits x day → Digits y t → Says (ascii "Q " ++ (x ++ (ascii " " ++ y))) (question day t)

-- ---- numbers

are_digits : (field : List ℕ) → AllDigits field → all_digits field ≡ true
unfolding all_digits within
are_digits [] d = refl
are_digits (b ∷ bs) d = simp (le-leb 48 b d.0, le-leb b 57 d.1, are_digits bs d.2)

digits_are : (field : List ℕ) → all_digits field ≡ true → AllDigits field
unfolding all_digits within
digits_are [] d = tt
digits_are (b ∷ bs) d =
    let e = (and-eq-true_iff (is_digit b) (all_digits bs)).0 d in
    let f = (and-eq-true_iff (leb 48 b) (leb b 57)).0 e.0 in
    (leb-true 48 b f.0, leb-true b 57 f.1, digits_are bs e.1)

short_given : (field : List ℕ) (n : ℕ) → Digits field n → short_number field ≡ Some n
unfolding short_number
short_given field n d =
    simp (le-leb (length field) max_digits (omega (arith, d.few))) (few_digits field d.some d.few (are_digits field d.digits) ∙ ap Some d.value)

not_given : {A : Type 0} {n : ℕ} → None ≡ Some n → A
not_given e = let z : ◌≡◌ {A = ℕ} 0 1 = cc in absurd (omega arith)

pub given_short : (field : List ℕ) (n : ℕ) → short_number field ≡ Some n → Digits field n
unfolding short_number
given_short field n =
    by_bool (leb (length field) max_digits)
    (λ b. simp b (λ e. let g = given_digits field n e in record { some = g.0; few = leb-true (length field) max_digits b; digits = digits_are field g.1; value = g.2 }))
    (λ b. simp b not_given)

pub no_space : (field : List ℕ) → AllDigits field → has_no space_byte field ≡ true
unfolding has_no
no_space [] d = refl
no_space (b ∷ bs) d = simp (ne_eqb b space_byte (omega (arith, d.0)), no_space bs d.2)

-- ---- what each kind of line says

question_says : (x y : List ℕ) {day t : ℕ} → Digits x day → Digits y t → meaning (ascii "Q " ++ (x ++ (ascii " " ++ y))) ≡ question day t
unfolding meaning
question_says x y {day} {t} d e =
    let two : parts space_byte (x ++ (space_byte ∷ y)) ≡ x ∷ y ∷ []
    = part_before space_byte x y (no_space x d.digits) ∙ ap (λ (ps : List (List ℕ)). x ∷ ps) (part_alone space_byte y (no_space y e.digits)) in
    let short : length (ascii "Q " ++ (x ++ (ascii " " ++ y))) ≤ 4096 = omega (arith, length-append x (space_byte ∷ y), d.few, e.few) in
    simp (le-leb (length (ascii "Q " ++ (x ++ (ascii " " ++ y)))) 4096 short, two, short_given x day d, short_given y t e)

-- each kind of line says what it is to say
pub says_is : {l : List ℕ} {m : Line} → Says l m → meaning l ≡ m
unfolding meaning
says_is (says_list bytes h) = simp (le-leb (length (ascii "L " ++ bytes)) 4096 h)
says_is says_store = refl
says_is says_reset = refl
says_is (says_question x y d e) = question_says x y d e

-- ---- and no other line says it

abbrev Kind : List ℕ → Line → Type 0
Kind l m = (m ≡ other) ⊎ Says l m

alone_kind : (b : ℕ) → Kind (b ∷ []) (alone b)
alone_kind b =
    by_bool (eqb b letter_s) (λ e. rw (eqb-true b letter_s e) (inr says_store))
    (λ e. by_bool (eqb b letter_z) (λ f. rw (eqb-true b letter_z f) (inr says_reset)) (λ f. simp (e, f) (inl refl)))

numbers_kind : (bytes x y : List ℕ) → parts space_byte bytes ≡ x ∷ y ∷ [] → (a b : Option ℕ) → short_number x ≡ a → short_number y ≡ b
    → Kind (letter_q ∷ space_byte ∷ bytes) (asks a b)
numbers_kind bytes x y e (Some day) (Some t) f g =
    rw (two_parts space_byte bytes x y e) (inr (says_question x y (given_short x day f) (given_short y t g)))
numbers_kind bytes x y e (Some day) None f g = inl refl
numbers_kind bytes x y e None b f g = inl refl

fields_kind : (bytes : List ℕ) (fields : List (List ℕ)) → parts space_byte bytes ≡ fields → Kind (letter_q ∷ space_byte ∷ bytes) (question_of fields)
fields_kind bytes [] e = inl refl
fields_kind bytes (x ∷ []) e = inl refl
fields_kind bytes (x ∷ y ∷ []) e = numbers_kind bytes x y e (short_number x) (short_number y) refl refl
fields_kind bytes (x ∷ y ∷ z ∷ zs) e = inl refl

followed_kind : (b : ℕ) (bytes : List ℕ) → length (b ∷ space_byte ∷ bytes) ≤ 4096 → Kind (b ∷ space_byte ∷ bytes) (followed b bytes)
followed_kind b bytes h =
    by_bool (eqb b letter_l) (λ e. rw (eqb-true b letter_l e) (inr (says_list bytes h)))
    (λ e. by_bool (eqb b letter_q)
    (λ f. rw (eqb-true b letter_q f) (fields_kind bytes (parts space_byte bytes) refl))
    (λ f. simp (e, f) (inl refl)))

line_kind : (l : List ℕ) → length l ≤ 4096 → Kind l (line_of l)
line_kind [] h = inl refl
line_kind (b ∷ []) h = alone_kind b
line_kind (b ∷ c ∷ bytes) h =
    by_bool (eqb c space_byte) (λ e. rw (eqb-true c space_byte e) (followed_kind b bytes h)) (λ e. simp e (inl refl))

kind : (l : List ℕ) → Kind l (meaning l)
unfolding meaning
kind l = by_bool (leb (length l) max_line) (λ e. simp e (line_kind l (leb-true (length l) max_line e))) (λ e. simp e (inl refl))

abbrev tag : Line → ℕ
tag (list bytes) = 0
tag store = 1
tag reset = 2
tag (question day t) = 3
tag other = 4

never_other : {l : List ℕ} {m : Line} → Says l m → m ≡ other → ⊥
never_other (says_list bytes h) e = omega (arith, ap tag e)
never_other says_store e = omega (arith, ap tag e)
never_other says_reset e = omega (arith, ap tag e)
never_other (says_question x y d f) e = omega (arith, ap tag e)

-- a line says what its kind is to say, and every line that says anything is of a kind
pub says : (l : List ℕ) (m : Line) → (m ≡ other → ⊥) → (meaning l ≡ m) ↔ Says l m
says l m not_other = (to, says_is)
  where
    from_kind : Kind l (meaning l) → meaning l ≡ m → Says l m
    from_kind (inl o) e = absurd (not_other (sym e ∙ o))
    from_kind (inr s) e = rw e at s

    to : meaning l ≡ m → Says l m
    to e = from_kind (kind l) e

-- a line says nothing that a line of a trace can say exactly when it is of no kind
pub no_line_lem : (l : List ℕ) → (meaning l ≡ other) ↔ ((m : Line) → Says l m → ⊥)
no_line_lem l = (to, from)
  where
    to : meaning l ≡ other → (m : Line) → Says l m → ⊥
    to e m s = never_other s (sym (says_is s) ∙ e)

    pick : Kind l (meaning l) → ((m : Line) → Says l m → ⊥) → meaning l ≡ other
    pick (inl o) none = o
    pick (inr s) none = absurd (none (meaning l) s)

    from : ((m : Line) → Says l m → ⊥) → meaning l ≡ other
    from none = pick (kind l) none

-- ---- the letters of a line, by what it says

abbrev listed : Line → List ℕ
listed (list bytes) = bytes
listed store = []
listed reset = []
listed (question day t) = []
listed other = []

stored_by : {l : List ℕ} {m : Line} → Says l m → m ≡ store → l ≡ ascii "S"
stored_by (says_list bytes h) e = absurd (omega (arith, ap tag e))
stored_by says_store e = refl
stored_by says_reset e = absurd (omega (arith, ap tag e))
stored_by (says_question x y d f) e = absurd (omega (arith, ap tag e))

reset_by : {l : List ℕ} {m : Line} → Says l m → m ≡ reset → l ≡ ascii "Z"
reset_by (says_list bytes h) e = absurd (omega (arith, ap tag e))
reset_by says_store e = absurd (omega (arith, ap tag e))
reset_by says_reset e = refl
reset_by (says_question x y d f) e = absurd (omega (arith, ap tag e))

listed_by : {l : List ℕ} {m : Line} (bytes : List ℕ) → Says l m → m ≡ list bytes → l ≡ ascii "L " ++ bytes
listed_by bytes (says_list others h) e = ap (λ (x : List ℕ). ascii "L " ++ x) (ap listed e)
listed_by bytes says_store e = absurd (omega (arith, ap tag e))
listed_by bytes says_reset e = absurd (omega (arith, ap tag e))
listed_by bytes (says_question x y d f) e = absurd (omega (arith, ap tag e))

by_kind : {A : Type 0} (l : List ℕ) (m : Line) → meaning l ≡ m → (m ≡ other → ⊥) → (Says l m → A) → A
by_kind l m e some f = f ((says l m some).0 e)

pub store_letters : (l : List ℕ) → meaning l ≡ store → l ≡ ascii "S"
store_letters l e = by_kind l store e (λ z. absurd (omega (arith, ap tag z))) (λ s. stored_by s refl)

pub reset_letters : (l : List ℕ) → meaning l ≡ reset → l ≡ ascii "Z"
reset_letters l e = by_kind l reset e (λ z. absurd (omega (arith, ap tag z))) (λ s. reset_by s refl)

pub list_letters : (l bytes : List ℕ) → meaning l ≡ list bytes → l ≡ ascii "L " ++ bytes
list_letters l bytes e = by_kind l (list bytes) e (λ z. absurd (omega (arith, ap tag z))) (λ s. listed_by bytes s refl)
