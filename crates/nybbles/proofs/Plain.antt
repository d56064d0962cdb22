-- A list is read by the months and marks of its codes; how many nybbles a code has does not matter. So every spelling is taken.
-- Assumes nothing.
use mathlib.Core.Path.{◌≡◌, refl, sym, ap, ◌∙◌}
use mathlib.Core.List.{List, [], ◌∷◌, map}
use Prim.Native.Nat.{ℕ, ◌+◌, ◌<◌}
use native.Mathlib.Nat.{pos_of_ne-zero}
use native.Mathlib.Omega.{arith}
use lib.Dec.{eqb}
use lib.ListN.{length, length-map}
use borrow.Author.Tests.{lt-ltb, le-ltb, eqb-false}
use Rattle.schedule.specs.Answers.{Reading, refusal}
use Rattle.schedule.proofs.Cases.{by_bool}
use Rattle.nybbles.specs.declared.code.Code.{Code}
use Rattle.nybbles.specs.Codes.{nybbles, codes_of}
use Rattle.nybbles.specs.Read.{State, is_expiry, fault, after, at_end, read_codes, start, read_nybbles}
use Rattle.nybbles.proofs.Codes.{All, more, Some, codes_some, sizes, sizes_add_up}

-- a code's months and mark, as if it had one nybble
abbrev pub plain : Code → Code
plain c = record { months = c.months; mark = c.mark; size = 1 }

plain_fault : (st : State) (c : Code) → fault st (plain c) ≡ fault st c
unfolding fault
plain_fault st c = refl

plain_after : (st : State) (c : Code) → after st (plain c) ≡ after st c
unfolding after
plain_after st c = refl

-- two readings with one number, and equal where they are accepted
pub record Alike (r r' : Reading) : Type 0 where
  pub number : r.number ≡ r'.number
  pub same : r.number ≡ 0 → r ≡ r'

both : (r : Reading) → Alike r r
both r = record { number = refl; same = λ z. refl }

refused : (n p q : ℕ) → 0 < n → Alike (refusal n p) (refusal n q)
refused n p q h = record { number = refl; same = λ z. absurd (omega arith) }

plain_end : (cs : List Code) → All Some cs → (st : State) (p q k l : ℕ) → k ≡ p + sizes cs → l ≡ q + length cs → Alike (at_end k p st) (at_end l q st)
unfolding sizes
plain_end [] a st p q k l e f = simp (le-ltb p k (omega arith), le-ltb q l (omega arith)) (both _)
plain_end (c ∷ cs) (more h a) st p q k l e f = simp (lt-ltb p k (omega (arith, h.1)), lt-ltb q l (omega arith)) (refused 6 p q (omega arith))

plain_codes_lem : (cs : List Code) → All Some cs → (st : State) (p q k l : ℕ) → k ≡ p + sizes cs → l ≡ q + length cs → Alike (read_codes k p st cs) (read_codes l q st (map plain cs))
unfolding read_codes sizes
plain_codes_lem [] a st p q k l e f = refused 1 p q (omega arith)
plain_codes_lem (c ∷ cs) (more h a) st p q k l e f =
    let x = plain_fault st c in
    let y = plain_after st c in
    by_bool (eqb (fault st c) 0)
    (λ g. by_bool (is_expiry c.mark)
    (λ i. simp (x, y, g, i) (plain_end cs a (after st c) (p + c.size) (q + 1) k l (omega arith) (omega arith)))
    (λ i. simp (x, y, g, i) (plain_codes_lem cs a (after st c) (p + c.size) (q + 1) k l (omega arith) (omega arith))))
    (λ g. simp (x, g) (refused (fault st c) p q (pos_of_ne-zero (eqb-false (fault st c) 0 g))))

-- reading months and marks
abbrev pub read_plain : List Code → Reading
read_plain cs = read_codes (length cs) 0 start cs

pub plain_read : (bytes : List ℕ) → Alike (read_nybbles bytes) (read_plain (map plain (codes_of (nybbles bytes))))
unfolding read_nybbles
plain_read bytes =
    let ns = nybbles bytes in
    let cs = codes_of ns in
    plain_codes_lem cs (codes_some ns) start 0 0 (length ns) (length (map plain cs)) (omega (arith, sizes_add_up ns)) (omega (arith, length-map cs plain))

-- lists whose codes have the same months and marks are taken alike, as 0x95 and 5 are
pub any_spelling : (bytes other : List ℕ) → map plain (codes_of (nybbles bytes)) ≡ map plain (codes_of (nybbles other)) → (read_nybbles bytes).number ≡ 0
    → read_nybbles other ≡ read_nybbles bytes
any_spelling bytes other e z =
    let a = plain_read bytes in
    let b = plain_read other in
    let same : read_plain (map plain (codes_of (nybbles bytes))) ≡ read_plain (map plain (codes_of (nybbles other))) = ap read_plain e in
    let taken : (read_nybbles other).number ≡ 0 = b.number ∙ (ap (λ (r : Reading). r.number) (sym same) ∙ (sym a.number ∙ z)) in
    b.same taken ∙ (sym same ∙ sym (a.same z))
