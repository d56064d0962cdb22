-- Nybbles put into bytes: one nybble, those of a code, and those of the codes of a schedule.
-- Assumes nothing.
use mathlib.Core.Path.{◌≡◌, refl, sym, ap, ◌∙◌}
use mathlib.Core.List.{List, [], ◌∷◌, ◌++◌, map, flatten}
use Prim.Native.Nat.{ℕ, zero, suc, ◌+◌, ◌*◌, ◌/◌, ◌%◌, ◌≤◌, ◌<◌}
use native.Mathlib.Numerals.{add-one}
use native.Mathlib.Omega.{arith}
use lib.ListN.{length, get_or, drop, set, length-append, drop_of_length-le}
use lib.Seq.{sets, length-sets, drop-cons, get_or-set_other, set-get_or}
use Rattle.schedule.specs.Schedule.{Schedule}
use Rattle.nybbles.specs.Codes.{nybbles}
use Rattle.nybbles.specs.Write.{pack, spelling, nybbles_of}
use Rattle.nybbles.specs.declared.written.WrittenCode.{WrittenCode}
use Rattle.nybbles.specs.Private.{code_of, AreNybbles}
use Rattle.schedule.proofs.Stores.{sets_append}
use Rattle.nybbles.proofs.Evened.{held_few}
use Rattle.nybbles.proofs.Codes.{All, more, count, upper, lower}
use Rattle.nybbles.proofs.Division.{IsNybble, spelling_all, flat_all, spelling_even, nybble_count}

-- a whole byte put, which is its two nybbles put
put_byte : (bs : List ℕ) (at k m n : ℕ) → at ≡ 2 * k → n < 16 → nybbles (set bs k (m * 16 + n)) ≡ set (set (nybbles bs) at m) (suc at) n
unfolding nybbles
put_byte [] at k m n e h = refl
put_byte (b ∷ bs) zero zero m n e h =
    let x : (m * 16 + n) / 16 ≡ m = omega arith in
    let y : (m * 16 + n) % 16 ≡ n = omega arith in
    rw (x, y)
put_byte (b ∷ bs) zero (suc k) m n e h = absurd (omega arith)
put_byte (b ∷ bs) (suc zero) k m n e h = absurd (omega arith)
put_byte (b ∷ bs) (suc (suc a)) zero m n e h = absurd (omega arith)
put_byte (b ∷ bs) (suc (suc a)) (suc k) m n e h = rw (put_byte bs a k m n (omega arith) h)

-- the upper half of a byte put, and the lower one: the other half stays
module _ (bs : List ℕ) (at k n : ℕ) where
  pub put_upper : at ≡ 2 * k → nybbles (set bs k (n * 16 + get_or bs k 0 % 16)) ≡ set (nybbles bs) at n
  put_upper e =
      let ns = set (nybbles bs) at n in
      let low : get_or ns (suc at) 0 ≡ get_or bs k 0 % 16 = get_or-set_other (nybbles bs) at (suc at) n 0 (λ q. omega arith) ∙ lower bs (suc at) k (omega arith) in
      put_byte bs at k n (get_or bs k 0 % 16) e (omega arith) ∙ (ap (set ns (suc at)) (sym low) ∙ set-get_or ns (suc at) 0)

  pub put_lower : at ≡ 2 * k + 1 → n < 16 → nybbles (set bs k (get_or bs k 0 / 16 * 16 + n)) ≡ set (nybbles bs) at n
  put_lower e h =
      let ns = nybbles bs in
      let high : set ns (2 * k) (get_or bs k 0 / 16) ≡ ns = ap (set ns (2 * k)) (sym (upper bs (2 * k) k refl)) ∙ set-get_or ns (2 * k) 0 in
      let q : suc (2 * k) ≡ at = omega arith in
      put_byte bs (2 * k) k (get_or bs k 0 / 16) n refl h ∙ rw (high, q)

-- packed nybbles stored as bytes
put_pack : (ns bs : List ℕ) (at k : ℕ) → at ≡ 2 * k → length ns % 2 ≡ 0 → All IsNybble ns → nybbles (sets bs k (pack ns)) ≡ sets (nybbles bs) at ns
unfolding pack
put_pack [] bs at k e l a = refl
put_pack (m ∷ []) bs at k e l a = absurd (omega arith)
put_pack (m ∷ n ∷ ns) bs at k e l (more h (more i a)) = put_pack ns (set bs k (m * 16 + n)) (suc (suc at)) (suc k) (omega arith) (omega arith) a ∙ rw (put_byte bs at k m n e i)

-- bytes are the packing of their nybbles
pub packed : (bs : List ℕ) → pack (nybbles bs) ≡ bs
unfolding pack nybbles
packed [] = refl
packed (b ∷ bs) =
    let x : b / 16 * 16 + b % 16 ≡ b = omega arith in
    rw (x, packed bs)

-- what holds in the loop of `put_codes`: the nybbles left, put from here on, make the whole
pub record Puts (codes : List WrittenCode) (out₀ out : List ℕ) (at i : ℕ) : Type 0 where
  pub few : at ≤ 2 * i
  pub same : length (nybbles out) ≡ length (nybbles out₀)
  pub low : AreNybbles (flatten (map code_of (drop i codes)))
  pub count : at + length (flatten (map code_of (drop i codes))) ≡ length (flatten (map code_of codes))
  pub stored : sets (nybbles out) at (flatten (map code_of (drop i codes))) ≡ sets (nybbles out₀) 0 (flatten (map code_of codes))

pub puts_start : (codes : List WrittenCode) (out : List ℕ) → AreNybbles (flatten (map code_of codes)) → Puts codes out out 0 0
puts_start codes out l = record { few = omega arith; same = refl; low = l; count = omega arith; stored = refl }

-- an output keeps its length
pub puts_same : (codes : List WrittenCode) (out₀ out : List ℕ) (at i : ℕ) → Puts codes out₀ out at i → length out ≡ length out₀
puts_same codes out₀ out at i s = omega (arith, s.same, count out, count out₀)

first_low : (c ns : List ℕ) → AreNybbles (c ++ ns) → AreNybbles c
first_low [] ns l = tt
first_low (n ∷ c) ns l = (l.0, first_low c ns l.1)

later_low : (c ns : List ℕ) → AreNybbles (c ++ ns) → AreNybbles ns
later_low [] ns l = l
later_low (n ∷ c) ns l = later_low c ns l.1

module _ (codes : List WrittenCode) (out₀ out : List ℕ) (at i : ℕ) (s : Puts codes out₀ out at i) where
  module _ (h : i < length codes) (d : WrittenCode) where
    abbrev c : List ℕ
    c = code_of (get_or codes i d)

    abbrev rest : List ℕ
    rest = flatten (map code_of (drop (i + 1) codes))

    next : flatten (map code_of (drop i codes)) ≡ c ++ rest
    unfolding flatten
    next = rw (add-one, drop-cons codes i d h)

    next_length : length (flatten (map code_of (drop i codes))) ≡ length c + length rest
    next_length = ap length next ∙ length-append c rest

    pub puts_low : AreNybbles c
    puts_low = first_low c rest (rw next at s.low)

    pub puts_room : length (flatten (map code_of codes)) ≤ length (nybbles out₀) → at + length c ≤ length (nybbles out)
    puts_room l = omega (arith, s.count, s.same, next_length)

    pub puts_step : (exit : List ℕ) (r : ℕ) → r ≡ at + length c → nybbles exit ≡ sets (nybbles out) at c → Puts codes out₀ exit r (i + 1)
    puts_step exit r p q = record {
      few = omega (arith, s.few, held_few (get_or codes i d));
      same = ap length q ∙ (length-sets (nybbles out) at c ∙ s.same);
      low = later_low c rest (rw next at s.low);
      count = omega (arith, s.count, next_length);
      stored = rw (p, q) (sym (sets_append c (nybbles out) at rest) ∙ (ap (sets (nybbles out) at) (sym next) ∙ s.stored));
    }

  pub puts_end : length codes ≤ i → nybbles out ≡ sets (nybbles out₀) 0 (flatten (map code_of codes))
  unfolding flatten
  puts_end h = let e : drop i codes ≡ [] = drop_of_length-le codes h in rw e at s.stored

-- the list of a schedule
module _ (s : Schedule) (m : ℕ) (e : m ≡ length (flatten (spelling s))) where
  pub bytes_counted : m / 2 ≡ length (nybbles_of s)
  bytes_counted = omega (arith, nybble_count s)

  pub bytes_fit : (out : List ℕ) → m / 2 ≤ length out → length (flatten (spelling s)) ≤ length (nybbles out)
  bytes_fit out l = omega (arith, nybble_count s, count out)

all_low : (ns : List ℕ) → All IsNybble ns → AreNybbles ns
all_low [] a = tt
all_low (n ∷ ns) (more h a) = (h, all_low ns a)

pub bytes_low : (s : Schedule) → AreNybbles (flatten (spelling s))
bytes_low s = all_low _ (flat_all (spelling s) (spelling_all s))

pub bytes_put : (s : Schedule) (out exit : List ℕ) → nybbles exit ≡ sets (nybbles out) 0 (flatten (spelling s)) → exit ≡ sets out 0 (nybbles_of s)
unfolding nybbles_of
bytes_put s out exit e =
    let ns = flatten (spelling s) in
    let target = put_pack ns out 0 0 refl (spelling_even s) (flat_all (spelling s) (spelling_all s)) in
    sym (packed exit) ∙ (ap pack (e ∙ sym target) ∙ packed (sets out 0 (pack ns)))
