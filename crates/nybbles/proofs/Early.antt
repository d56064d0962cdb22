-- Any list, however long, is decided by its first 2,401 bytes: each code has a month, so the 2,401st code passes month 2400 if none before it
-- ended the reading, and no code has more than two nybbles.
-- Assumes nothing.
use mathlib.Core.Path.{◌≡◌, refl}
use mathlib.Core.List.{List, [], ◌∷◌, ◌++◌}
use Prim.Native.Nat.{ℕ, ◌+◌, ◌*◌, ◌≤◌, ◌<◌}
use native.Mathlib.Omega.{arith}
use lib.Dec.{ltb, eqb}
use lib.ListN.{length, length-append}
use borrow.Author.Tests.{ltb-true, ltb-false, lt-ltb, eqb-true}
use Rattle.schedule.proofs.Cases.{by_bool}
use Rattle.nybbles.specs.declared.code.Code.{Code}
use Rattle.nybbles.specs.Codes.{nybbles, single, wide, codes_of}
use Rattle.nybbles.specs.Read.{State, is_expiry, fault, after, read_codes, start, read_nybbles}
use Rattle.nybbles.proofs.Codes.{count, codes_single, codes_wide, single_some, wide_some}
use Rattle.nybbles.proofs.Reading.{passes, after_total}

-- from place p on there are enough of the k nybbles: two for each month that may still come, and two more
record Enough (st : State) (p n k : ℕ) : Type 0 where
  few : st.total ≤ 2400
  enough : 4802 ≤ 2 * st.total + n
  ends : p + n ≤ k

-- where the same code stands first, both readings go on or end alike
module _
    (c : Code) (some : 0 < c.months) (two : c.size ≤ 2) (st : State) (p m n k l : ℕ) (q : m ≡ c.size + n) (e : Enough st p m k) (f : Enough st p m l)
    (cs ds : List Code) where
  alike : (Enough (after st c) (p + c.size) n k → Enough (after st c) (p + c.size) n l
      → read_codes k (p + c.size) (after st c) cs ≡ read_codes l (p + c.size) (after st c) ds)
      → read_codes k p st (c ∷ cs) ≡ read_codes l p st (c ∷ ds)
  unfolding read_codes
  alike go =
      by_bool (eqb (fault st c) 0)
      (λ z. let s = (passes st c (eqb-true (fault st c) 0 z)).total_fits in
      let t = after_total st c in
      let en = e.enough in
      let ke = e.ends in
      let le = f.ends in
      by_bool (is_expiry c.mark)
      (λ x. simp (z, x, lt-ltb (p + c.size) k (omega arith), lt-ltb (p + c.size) l (omega arith)))
      (λ x. simp (z, x) (go (record { few = omega arith; enough = omega arith; ends = omega arith }) (record { few = omega arith; enough = omega arith; ends = omega arith }))))
      (λ z. simp z)

early : (ns ms : List ℕ) (st : State) (p k l : ℕ) → Enough st p (length ns) k → Enough st p (length ns) l
    → read_codes k p st (codes_of (ns ++ ms)) ≡ read_codes l p st (codes_of ns)
unfolding single wide
early [] ms st p k l e f = absurd (omega (arith, e.few, e.enough))
early (n ∷ []) ms st p k l e f = absurd (omega (arith, e.few, e.enough))
early (n ∷ g ∷ ns) ms st p k l e f =
    by_bool (ltb n 8)
    (λ b. let h = ltb-true n 8 b in
    rw (codes_single n (g ∷ ns ++ ms) h, codes_single n (g ∷ ns) h)
    (alike (single n) (single_some n).0 (omega arith) st p _ (length (g ∷ ns)) k l (omega arith) e f _ _
    (early (g ∷ ns) ms (after st (single n)) (p + 1) k l)))
    (λ b. let h = ltb-false n 8 b in
    rw (codes_wide n g (ns ++ ms) h, codes_wide n g ns h)
    (alike (wide n g 2) (wide_some n g 2 (omega arith)).0 (omega arith) st p _ (length ns) k l (omega arith) e f _ _
    (early ns ms (after st (wide n g 2)) (p + 2) k l)))

spread_out : (bs cs : List ℕ) → nybbles (bs ++ cs) ≡ nybbles bs ++ nybbles cs
unfolding nybbles
spread_out [] cs = refl
spread_out (b ∷ bs) cs = rw (spread_out bs cs)

-- a list of 2,401 bytes or more is read like its first 2,401
pub decided_early : (bytes rest : List ℕ) → length bytes ≡ 2401 → read_nybbles (bytes ++ rest) ≡ read_nybbles bytes
unfolding read_nybbles
decided_early bytes rest e =
    let n = count bytes in
    rw (spread_out bytes rest)
    (early (nybbles bytes) (nybbles rest) start 0 (length (nybbles bytes ++ nybbles rest)) (length (nybbles bytes))
    (record { few = omega arith; enough = omega arith; ends = omega (arith, length-append (nybbles bytes) (nybbles rest)) })
    (record { few = omega arith; enough = omega arith; ends = omega arith }))
