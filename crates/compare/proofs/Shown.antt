-- What is shown: which lines a comparison has, in which order, and that its bytes are these lines.
-- Assumes nothing.
use mathlib.Core.Path.{◌≡◌, refl, sym, ap, ◌∙◌}
use mathlib.Core.Bool.{Bool, true, false}
use mathlib.Core.List.{List, [], ◌∷◌, ◌++◌, map}
use mathlib.Core.Logic.{◌↔◌, ◌≢◌, ◌⊎◌, inl, inr, ⊎_elim}
use Prim.Native.Nat.{ℕ, zero, suc, ◌+◌, ◌≤◌, ◌<◌}
use native.Mathlib.Nat.{eq-or-lt_of_le}
use native.Mathlib.Omega.{arith}
use lib.Dec.{eqb}
use borrow.Author.Tests.{eqb-false, ne_eqb}
use Rattle.ascii.specs.Decimal.{decimal}
use Rattle.ascii.specs.Lines.{newline}
use Rattle.ascii.specs.Parts.{parts}
use Rattle.ascii.proofs.Fields.{has_no}
use Rattle.ascii.proofs.Unbroken.{Unbroken, empty, more, append, in_decimal, first_part_lem}
use Rattle.schedule.specs.declared.Sign.{Sign}
use Rattle.schedule.specs.declared.Sign.TheVariants.{Positive, Negative}
use Rattle.schedule.specs.declared.Leap.{Leap}
use Rattle.schedule.specs.Schedule.{Schedule, well_formed}
use Rattle.schedule.specs.Extends.{extends}
use Rattle.schedule.proofs.Cases.{by_bool}
use Rattle.text.specs.Bytes.{sign_byte}
use Rattle.compare.specs.Compare.{leap_mark, is_unknown, mark, Line, differ, expire, relate, has_line, line_at, month_lines, expiry_lines, relation, lines_of, relation_by, told, in_lines, compared}
use Rattle.compare.proofs.Meaning.{IsLeap, line_exactly, line_early}

-- a line is one of these
abbrev pub In : Line → List Line → Type 0
In l [] = ⊥
In l (k ∷ ks) = (l ≡ k) ⊎ In l ks

in_parts : (l : Line) (xs ys : List Line) → In l (xs ++ ys) → In l xs ⊎ In l ys
in_parts l [] ys h = inr h
in_parts l (x ∷ xs) ys (inl e) = inl (inl e)
in_parts l (x ∷ xs) ys (inr h) = ⊎_elim (λ p. inl (inr p)) (λ q. inr q) (in_parts l xs ys h)

in_first : (l : Line) (xs ys : List Line) → In l xs → In l (xs ++ ys)
in_first l [] ys h = elim h [ ]
in_first l (x ∷ xs) ys (inl e) = inl e
in_first l (x ∷ xs) ys (inr h) = inr (in_first l xs ys h)

in_second : (l : Line) (xs ys : List Line) → In l ys → In l (xs ++ ys)
in_second l [] ys h = h
in_second l (x ∷ xs) ys h = inr (in_second l xs ys h)

-- ---- the parts of a line

-- a line's month, or 2401 for that of the expiries, and 2402 for the last one: the order in which lines stand
abbrev pub rank : Line → ℕ
rank (differ m x y) = m
rank (expire e f) = 2401
rank (relate p q) = 2402

abbrev kind : Line → ℕ
kind (differ m x y) = 0
kind (expire e f) = 1
kind (relate p q) = 2

abbrev one : Line → ℕ
one (differ m x y) = x
one (expire e f) = e
one (relate p q) = 0

abbrev two : Line → ℕ
two (differ m x y) = y
two (expire e f) = f
two (relate p q) = 0

abbrev over : Line → Bool
over (differ m x y) = true
over (expire e f) = true
over (relate p q) = p

abbrev under : Line → Bool
under (differ m x y) = true
under (expire e f) = true
under (relate p q) = q

-- ---- the lines of the months

-- a line that is that of one of n months from month m on
pub record Standing (a b : Schedule) (m n : ℕ) (l : Line) : Type 0 where
  pub month : ℕ
  pub from : m ≤ month
  pub to : month < m + n
  pub stands : has_line a b month ≡ true
  pub is : l ≡ differ month (mark a month) (mark b month)

in_month : (a b : Schedule) (m : ℕ) (l : Line) → In l (line_at a b m) → (has_line a b m ≡ true) × (l ≡ differ m (mark a m) (mark b m))
unfolding line_at
in_month a b m l h =
    by_bool (has_line a b m) (λ t. (t, ⊎_elim (λ (e : l ≡ differ m (mark a m) (mark b m)). e) (λ (z : ⊥). absurd z) (rw t at h))) (λ f. absurd (rw f at h))

month_in : (a b : Schedule) (m : ℕ) → has_line a b m ≡ true → In (differ m (mark a m) (mark b m)) (line_at a b m)
unfolding line_at
month_in a b m t = rw t (inl refl)

in_months_lem : (a b : Schedule) (m n : ℕ) (l : Line) → In l (month_lines a b m n) → Standing a b m n l
unfolding month_lines
in_months_lem a b m zero l h = absurd h
in_months_lem a b m (suc n) l h =
    ⊎_elim
    (λ (p : In l (line_at a b m)).
    let q = in_month a b m l p in
    record { month = m; from = omega arith; to = omega arith; stands = q.0; is = q.1 })
    (λ (p : In l (month_lines a b (m + 1) n)).
    let s = in_months_lem a b (m + 1) n l p in
    record { month = s.month; from = omega (arith, s.from); to = omega (arith, s.to); stands = s.stands; is = s.is })
    (in_parts l (line_at a b m) (month_lines a b (m + 1) n) h)

pub months_in : (a b : Schedule) (m n k : ℕ) → m ≤ k → k < m + n → has_line a b k ≡ true → In (differ k (mark a k) (mark b k)) (month_lines a b m n)
unfolding month_lines
months_in a b m zero k h g t = absurd (omega arith)
months_in a b m (suc n) k h g t =
    ⊎_elim (λ (z : m ≡ k). in_first _ (line_at a b m) (month_lines a b (m + 1) n) (rw z (month_in a b k t)))
    (λ (l : m < k). in_second _ (line_at a b m) (month_lines a b (m + 1) n) (months_in a b (m + 1) n k (omega arith) (omega arith) t))
    (eq-or-lt_of_le h)

-- ---- all lines

in_expiries : (a b : Schedule) (l : Line) → In l (expiry_lines a b) → (a.expiry ≢ b.expiry) × (l ≡ expire a.expiry b.expiry)
unfolding expiry_lines
in_expiries a b l h =
    by_bool (eqb a.expiry b.expiry) (λ t. absurd (rw t at h))
    (λ f. (eqb-false a.expiry b.expiry f, ⊎_elim (λ (e : l ≡ expire a.expiry b.expiry). e) (λ (z : ⊥). absurd z) (rw f at h)))

expiries_in : (a b : Schedule) → a.expiry ≢ b.expiry → In (expire a.expiry b.expiry) (expiry_lines a b)
unfolding expiry_lines
expiries_in a b n = rw (ne_eqb a.expiry b.expiry n) (inl refl)

module _ (a b : Schedule) where
  -- no other lines stand
  pub in_lines_lem : (l : Line) → In l (lines_of a b) → Standing a b 0 2401 l ⊎ (((a.expiry ≢ b.expiry) × (l ≡ expire a.expiry b.expiry)) ⊎ (l ≡ relation a b))
  unfolding lines_of
  in_lines_lem l h =
      ⊎_elim (λ (p : In l (month_lines a b 0 2401)). inl (in_months_lem a b 0 2401 l p))
      (λ (p : In l (expiry_lines a b ++ (relation a b ∷ []))).
      ⊎_elim (λ (q : In l (expiry_lines a b)). inr (inl (in_expiries a b l q)))
      (λ (q : In l (relation a b ∷ [])). inr (inr (⊎_elim (λ (e : l ≡ relation a b). e) (λ (z : ⊥). absurd z) q)))
      (in_parts l (expiry_lines a b) (relation a b ∷ []) p))
      (in_parts l (month_lines a b 0 2401) (expiry_lines a b ++ (relation a b ∷ [])) h)

  -- the line of a month that has one stands
  pub month_stands : (m : ℕ) → m < 2401 → has_line a b m ≡ true → In (differ m (mark a m) (mark b m)) (lines_of a b)
  unfolding lines_of
  month_stands m h t = in_first _ (month_lines a b 0 2401) (expiry_lines a b ++ (relation a b ∷ [])) (months_in a b 0 2401 m (omega arith) (omega arith) t)

  -- a line with a month is that of a month that has one, and shows its marks
  pub month_shown : (m x y : ℕ) → In (differ m x y) (lines_of a b) → (has_line a b m ≡ true) × (x ≡ mark a m) × (y ≡ mark b m)
  month_shown m x y h =
      ⊎_elim
      (λ (s : Standing a b 0 2401 (differ m x y)).
      let z : m ≡ s.month = ap rank s.is in
      (rw z s.stands, rw z (ap one s.is), rw z (ap two s.is)))
      (λ q.
      ⊎_elim (λ (e : (a.expiry ≢ b.expiry) × (differ m x y ≡ expire a.expiry b.expiry)). absurd (omega (arith, ap kind e.1)))
      (λ (e : differ m x y ≡ relation a b). absurd (omega (arith, ap kind e))) q)
      (in_lines_lem (differ m x y) h)

  -- a comparison has a line of a month and two marks exactly where these are the lists' marks, one is a leap, and the other is not that leap
  pub differ_exactly : well_formed a ≡ true → well_formed b ≡ true → (m x y : ℕ)
      → In (differ m x y) (lines_of a b) ↔ ((x ≡ mark a m) × (y ≡ mark b m) × ((IsLeap x ⊎ IsLeap y) × (x ≢ y)))
  differ_exactly w w' m x y = (
    λ h.
        let s = month_shown m x y h in
        let p = (line_exactly a b m w w').0 s.0 in
        (s.1, s.2, rw (s.1, s.2) p),
    λ p.
        let t = (line_exactly a b m w w').1 (rw (p.0, p.1) at p.2) in
        rw (p.0, p.1) (month_stands m (line_early a b m w w' t) t),
  )

  -- one of two expiries exactly where these are the lists' and differ
  pub expire_exactly : (e f : ℕ) → In (expire e f) (lines_of a b) ↔ ((e ≡ a.expiry) × (f ≡ b.expiry) × (e ≢ f))
  unfolding lines_of
  expire_exactly e f = (
    λ h.
        ⊎_elim (λ (s : Standing a b 0 2401 (expire e f)). absurd (omega (arith, ap kind s.is)))
        (λ q.
        ⊎_elim
        (λ (p : (a.expiry ≢ b.expiry) × (expire e f ≡ expire a.expiry b.expiry)).
        let u : e ≡ a.expiry = ap one p.1 in
        let v : f ≡ b.expiry = ap two p.1 in
        (u, v, λ z. p.0 (sym u ∙ (z ∙ v))))
        (λ (p : expire e f ≡ relation a b). absurd (omega (arith, ap kind p))) q)
        (in_lines_lem (expire e f) h),
    λ p.
        rw (p.0, p.1)
        (in_second _ (month_lines a b 0 2401) (expiry_lines a b ++ (relation a b ∷ []))
        (in_first _ (expiry_lines a b) (relation a b ∷ []) (expiries_in a b (λ z. p.2 (p.0 ∙ (z ∙ sym p.1)))))),
  )

  -- and one that says how the lists stand to each other, by what each test of extension says
  pub relate_exactly : (p q : Bool) → In (relate p q) (lines_of a b) ↔ ((p ≡ extends a b) × (q ≡ extends b a))
  unfolding lines_of
  relate_exactly p q = (
    λ h.
        ⊎_elim (λ (s : Standing a b 0 2401 (relate p q)). absurd (omega (arith, ap kind s.is)))
        (λ r.
        ⊎_elim (λ (e : (a.expiry ≢ b.expiry) × (relate p q ≡ expire a.expiry b.expiry)). absurd (omega (arith, ap kind e.1)))
        (λ (e : relate p q ≡ relation a b). (ap over e, ap under e)) r)
        (in_lines_lem (relate p q) h),
    λ e. rw (e.0, e.1) (in_second _ (month_lines a b 0 2401) (expiry_lines a b ++ (relation a b ∷ [])) (in_second _ (expiry_lines a b) (relation a b ∷ []) (inl refl))),
  )

-- ---- their order

-- numbers from a number on, each greater than the one before
abbrev pub Rises : ℕ → List ℕ → Type 0
Rises from [] = Unit {0}
Rises from (m ∷ ms) = (from ≤ m) × Rises (m + 1) ms

from_less : (m n : ℕ) (ms : List ℕ) → m ≤ n → Rises n ms → Rises m ms
from_less m n [] h r = tt
from_less m n (k ∷ ks) h r = (omega (arith, r.0), r.1)

months_rise : (a b : Schedule) (m n : ℕ) (rest : List Line) → Rises (m + n) (map rank rest) → Rises m (map rank (month_lines a b m n ++ rest))
unfolding month_lines line_at
months_rise a b m zero rest r = from_less m (m + 0) (map rank rest) (omega arith) r
months_rise a b m (suc n) rest r =
    let z : m + suc n ≡ m + 1 + n = omega arith in
    let more = months_rise a b (m + 1) n rest (rw z at r) in
    by_bool (has_line a b m) (λ t. rw t (omega arith, more)) (λ f. rw f (from_less m (m + 1) (map rank (month_lines a b (m + 1) n ++ rest)) (omega arith) more))

expiries_rise : (a b : Schedule) → Rises 2401 (map rank (expiry_lines a b ++ (relation a b ∷ [])))
unfolding expiry_lines
expiries_rise a b = by_bool (eqb a.expiry b.expiry) (λ t. rw t (omega arith, tt)) (λ f. rw f (omega arith, (omega arith, tt)))

-- the lines stand in the order of their months, then that of the expiries, then the last one, and none stands twice
pub in_order : (a b : Schedule) → Rises 0 (map rank (lines_of a b))
unfolding lines_of
in_order a b = months_rise a b 0 2401 (expiry_lines a b ++ (relation a b ∷ [])) (expiries_rise a b)

-- ---- their bytes

-- a line's bytes, with the spaces and the `=` as numbers
pub differ_bytes : (m x y : ℕ) → told (differ m x y) ≡ decimal m ++ (32 ∷ x ∷ 32 ∷ y ∷ [])
differ_bytes m x y = refl

pub expire_bytes : (e f : ℕ) → told (expire e f) ≡ 61 ∷ 32 ∷ (decimal e ++ (32 ∷ decimal f))
expire_bytes e f = refl

-- none of them is LF
pub sign : (s : Sign) → eqb (sign_byte s) newline ≡ false
sign Positive = refl
sign Negative = refl

leap_mark_lem : (ls : List Leap) (m : ℕ) → eqb (leap_mark ls m) newline ≡ false
unfolding leap_mark
leap_mark_lem [] m = refl
leap_mark_lem (l ∷ ls) m = by_bool (eqb l.month m) (λ t. rw t (sign l.sign)) (λ f. rw f (leap_mark_lem ls m))

in_mark : (s : Schedule) (m : ℕ) → eqb (mark s m) newline ≡ false
in_mark s m = by_bool (is_unknown s m) (λ t. rw t refl) (λ f. rw f (leap_mark_lem s.leaps m))

abbrev pub AllUnbroken : List Line → Type 0
AllUnbroken [] = Unit {0}
AllUnbroken (l ∷ ls) = Unbroken (told l) × AllUnbroken ls

all_append : (xs ys : List Line) → AllUnbroken xs → AllUnbroken ys → AllUnbroken (xs ++ ys)
all_append [] ys u v = v
all_append (x ∷ xs) ys u v = (u.0, all_append xs ys u.1 v)

in_differ : (a b : Schedule) (m : ℕ) → Unbroken (told (differ m (mark a m) (mark b m)))
in_differ a b m = append _ (in_decimal m) (more refl (more (in_mark a m) (more refl (more (in_mark b m) empty))))

months_unbroken : (a b : Schedule) (m n : ℕ) → AllUnbroken (month_lines a b m n)
unfolding month_lines line_at
months_unbroken a b m zero = tt
months_unbroken a b m (suc n) =
    by_bool (has_line a b m) (λ t. rw t (in_differ a b m, months_unbroken a b (m + 1) n)) (λ f. rw f (months_unbroken a b (m + 1) n))

expiries_unbroken : (a b : Schedule) → AllUnbroken (expiry_lines a b)
unfolding expiry_lines
expiries_unbroken a b =
    by_bool (eqb a.expiry b.expiry) (λ t. rw t tt)
    (λ f. rw f (more refl (more refl (append _ (in_decimal a.expiry) (more refl (in_decimal b.expiry)))), tt))

in_relation : (p q : Bool) → Unbroken (relation_by p q)
unfolding has_no relation_by
in_relation true true = record { none = refl }
in_relation true false = record { none = refl }
in_relation false true = record { none = refl }
in_relation false false = record { none = refl }

pub lines_unbroken : (a b : Schedule) → AllUnbroken (lines_of a b)
unfolding lines_of
lines_unbroken a b =
    all_append (month_lines a b 0 2401) (expiry_lines a b ++ (relation a b ∷ [])) (months_unbroken a b 0 2401)
    (all_append (expiry_lines a b) (relation a b ∷ []) (expiries_unbroken a b) (in_relation (extends a b) (extends b a), tt))

split : (ls : List Line) → AllUnbroken ls → parts newline (in_lines ls) ≡ map told ls ++ ([] ∷ [])
unfolding in_lines parts
split [] u = refl
split (l ∷ ls) u = first_part_lem (told l) (in_lines ls) u.0 ∙ ap (λ (rest : List (List ℕ)). told l ∷ rest) (split ls u.1)

-- the output, parted at its LFs, is the lines, and nothing follows the last LF
pub read_as_lines : (a b : Schedule) → parts newline (compared a b) ≡ map told (lines_of a b) ++ ([] ∷ [])
unfolding compared
read_as_lines a b = split (lines_of a b) (lines_unbroken a b)
