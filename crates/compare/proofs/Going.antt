-- The loop over the months at which either list has a leap: what holds at each, and what is put when it has ended.
-- Assumes nothing.
use mathlib.Core.Path.{◌≡◌, refl, sym, ap, ◌∙◌}
use mathlib.Core.Bool.{Bool, true, false, not, ◌&&◌, ◌||◌, cond}
use mathlib.Core.List.{List, [], ◌∷◌, ◌++◌}
use Prim.Native.Nat.{ℕ, zero, suc, ◌+◌, ◌-◌, ◌*◌, ◌≤◌, ◌<◌, min}
use native.Mathlib.Decide.{dec_le}
use native.Mathlib.Nat.{add-zero, zero-add, suc-add}
use native.Mathlib.Omega.{arith}
use lib.Dec.{eqb}
use lib.ListN.{length}
use Rattle.ascii.specs.Ascii.{zero_byte}
use Rattle.ascii.specs.declared.output.Output.{Output}
use Rattle.ascii.specs.Output.{PutsUpTo}
use Rattle.ascii.proofs.Putting.{few}
use Rattle.ascii.proofs.LeftUpTo.{LeftUpTo, none_yet, more, all}
use Rattle.ascii.specs.Lines.{between}
use Rattle.schedule.specs.declared.Leap.{Leap}
use Rattle.schedule.specs.Schedule.{Schedule, gaps_fit, well_formed}
use Rattle.schedule.proofs.WordLayout.{within}
use Rattle.schedule.proofs.Cases.{by_bool}
use Rattle.schedule.proofs.Gaps.{later, before_end, parts}
use Rattle.compare.specs.Compare.{has_leap, leap_mark}
use Rattle.compare.specs.Private.{past_months, first_month, last_known, mark_ahead, ahead, passed, line_bytes, mark_line, month_bytes, months_bytes, differences}
use Rattle.compare.proofs.Marks.{leap_marked}
use Rattle.compare.specs.declared.cursor.Cursor.{Cursor}
use Rattle.compare.proofs.Ahead.{Ahead, begin, later_month, no_leap_lem, has_leap_lem, mark_is, past, fewer_left}

-- ---- months without a line

no_line_lem : (end : List ℕ) (a b : Schedule) (m : ℕ) → leap_mark a.leaps m ≡ zero_byte → leap_mark b.leaps m ≡ zero_byte → month_bytes end a b m ≡ []
unfolding month_bytes
no_line_lem end a b m p q = rw (leap_marked a.leaps m, leap_marked b.leaps m) (simp (p, q))

skip : (end : List ℕ) (a b : Schedule) (d m n : ℕ) → ((k : ℕ) → m ≤ k → k < m + d → month_bytes end a b k ≡ []) → months_bytes end a b m (d + n) ≡ months_bytes end a b (m + d) n
unfolding months_bytes
skip end a b zero m n f = rw (zero-add, add-zero)
skip end a b (suc d) m n f =
    let e : m + suc d ≡ m + 1 + d = omega arith in
    rw (suc-add, f m (omega arith) (omega arith), e) (skip end a b d (m + 1) n (λ k h g. f k (omega arith) (omega arith)))

to_month : (end : List ℕ) (a b : Schedule) (m n : ℕ) → m ≤ n → n ≤ past_months → ((k : ℕ) → m ≤ k → k < n → month_bytes end a b k ≡ [])
    → months_bytes end a b m (past_months - m) ≡ months_bytes end a b n (past_months - n)
to_month end a b m n h g f =
    let e : past_months - m ≡ (n - m) + (past_months - n) = omega arith in
    let z : m + (n - m) ≡ n = omega arith in
    ap (months_bytes end a b m) e ∙ (skip end a b (n - m) m (past_months - n) (λ k l u. f k l (omega arith)) ∙ ap (λ (k : ℕ). months_bytes end a b k (past_months - n)) z)

one_line : (end : List ℕ) (a b : Schedule) (m n : ℕ) → months_bytes end a b m (suc n) ≡ month_bytes end a b m ++ months_bytes end a b (m + 1) n
unfolding months_bytes
one_line end a b m n = refl

no_lines : (end : List ℕ) (a b : Schedule) (m : ℕ) → months_bytes end a b m 0 ≡ []
unfolding months_bytes
no_lines end a b m = refl

first_line : (end : List ℕ) (a b : Schedule) (m : ℕ) → m < past_months
    → months_bytes end a b m (past_months - m) ≡ month_bytes end a b m ++ months_bytes end a b (m + 1) (past_months - (m + 1))
first_line end a b m h =
    let e : past_months - m ≡ suc (past_months - (m + 1)) = omega arith in
    ap (months_bytes end a b m) e ∙ one_line end a b m (past_months - (m + 1))

-- ---- the line of a month

or-true : (x : Bool) → (x || true) ≡ true
or-true true = refl
or-true false = refl

line_shape : (end : List ℕ) (m : ℕ) {p : Bool} {x y x' y' : ℕ} → p ≡ true → x ≡ x' → y ≡ y'
    → cond (p && not (eqb x y)) (line_bytes end m x y) [] ≡ mark_line end m x' y'
unfolding mark_line
line_shape end m {x' = x'} {y' = y'} e f g = rw (e, f, g) (by_bool (eqb x' y') (λ t. simp t) (λ n. simp n))

-- the first leap of a well-formed schedule is at most at month 2400
first_most : (ls : List Leap) (from e : ℕ) → gaps_fit from ls e ≡ true → e ≤ 114366 → first_month ls ≤ past_months
unfolding first_month
first_most [] from e f h = omega arith
first_most (l ∷ ls) from e f h = let b = before_end ls l.month e (later from l ls e f) in omega (arith, within l.month (omega arith))

-- ---- the loop

-- month m is the first of the leaps ahead of both cursors: all lines before it are put, with at most 10 bytes a leap passed
pub record Going (s t : Schedule) (start out : Output) (a b : Cursor) (m : ℕ) : Type 0 where
  pub a_known : a.known ≡ last_known s
  pub b_known : b.known ≡ last_known t
  pub a_ahead : Ahead s (ahead a) m
  pub b_ahead : Ahead t (ahead b) m
  pub first : m ≡ min (first_month (ahead a)) (first_month (ahead b))
  pub bytes : ℕ
  pub room : bytes + (length (ahead a) + length (ahead b)) * 10 ≤ 5120
  pub left : LeftUpTo bytes start out (months_bytes (between start.lines) s t 0 past_months) (months_bytes (between start.lines) s t m (past_months - m))

most : {s : Schedule} {ls : List Leap} {m : ℕ} → Ahead s ls m → first_month ls ≤ past_months
most {s} {ls} a = first_most ls a.last s.expiry a.gaps (parts s a.well).end

-- from a month on to that of the next leap there is no line
between_leaps : (end : List ℕ) {s t : Schedule} {ls ks : List Leap} {m : ℕ} → Ahead s ls m → Ahead t ks m → (n : ℕ) → n ≡ min (first_month ls) (first_month ks)
    → months_bytes end s t m (past_months - m) ≡ months_bytes end s t n (past_months - n)
between_leaps end {s} {t} {m = m} x y n e =
    to_month end s t m n (omega (arith, x.up_to, y.up_to)) (omega (arith, most x))
    (λ k h g. no_line_lem end s t k (no_leap_lem x k h (omega arith)) (no_leap_lem y k h (omega arith)))

-- a cursor that has passed a month
abbrev pub Passed : ℕ → Cursor → Cursor → Type 0
Passed m c c' = (ahead c' ≡ passed m (ahead c)) × (c'.known ≡ c.known)

-- a cursor at the start of a list
abbrev pub AtStart : Schedule → Cursor → Type 0
AtStart s c = (ahead c ≡ s.leaps) × (c.known ≡ last_known s)

pub start_going : (s t : Schedule) (out : Output) {a b : Cursor} (m : ℕ) → well_formed s ≡ true → well_formed t ≡ true → AtStart s a → AtStart t b
    → m ≡ min (first_month (ahead a)) (first_month (ahead b)) → Going s t out out a b m
start_going s t out {a} {b} m w v p q e =
    let x : Ahead s (ahead a) 0 = rw p.0 (begin s w) in
    let y : Ahead t (ahead b) 0 = rw q.0 (begin t v) in
    record {
      a_known = p.1;
      b_known = q.1;
      a_ahead = later_month x m (omega arith) (omega arith);
      b_ahead = later_month y m (omega arith) (omega arith);
      first = e;
      bytes = 0;
      room = omega (arith, x.fewer, y.fewer, (parts s w).room, (parts t v).room);
      left = none_yet out (between_leaps (between out.lines) x y m e);
    }

module _ {s t : Schedule} {start out : Output} {a b : Cursor} {m : ℕ} (g : Going s t start out a b m) where
  -- after the last leap all lines are put
  pub ended : past_months ≤ m → PutsUpTo 5120 start out (differences (between start.lines) s t)
  ended h =
      let z : past_months - m ≡ 0 = omega arith in
      all g.left (ap (months_bytes (between start.lines) s t m) z ∙ no_lines (between start.lines) s t m) (omega (arith, g.room))

  module _ (h : m < past_months) where
    -- either has a leap at the month
    some_leap : (has_leap s.leaps m || has_leap t.leaps m) ≡ true
    some_leap =
        rw (leap_marked s.leaps m, leap_marked t.leaps m)
        (elim (dec_le (first_month (ahead a)) (first_month (ahead b))) [
          | yes l ↦ rw (has_leap_lem g.a_ahead (omega (arith, g.first)) h)
          | no l ↦ rw (has_leap_lem g.b_ahead (omega (arith, g.first)) h) (or-true (not (eqb (leap_mark s.leaps m) zero_byte)))
        ])

    -- the cursors go past it
    a_next : (a' : Cursor) → Passed m a a' → Ahead s (ahead a') (m + 1)
    a_next a' u = rw u.0 (past (ahead a) g.a_ahead h)

    b_next : (b' : Cursor) → Passed m b b' → Ahead t (ahead b') (m + 1)
    b_next b' v = rw v.0 (past (ahead b) g.b_ahead h)

    -- the months rise
    pub rises : (a' b' : Cursor) (m' : ℕ) → Passed m a a' → Passed m b b' → m' ≡ min (first_month (ahead a')) (first_month (ahead b')) → m < m'
    rises a' b' m' u v e = omega (arith, (a_next a' u).up_to, (b_next b' v).up_to)

    -- and with each at least one leap more is passed
    one_more : (a' b' : Cursor) → Passed m a a' → Passed m b b' → length (ahead a') + length (ahead b') + 1 ≤ length (ahead a) + length (ahead b)
    one_more a' b' u v =
        let c = fewer_left (ahead a) h in
        let d = fewer_left (ahead b) h in
        elim (dec_le (first_month (ahead a)) (first_month (ahead b))) [
          | yes l ↦ omega (arith, ap length u.0, ap length v.0, c.1 (omega (arith, g.first)), d.0)
          | no l ↦ omega (arith, ap length u.0, ap length v.0, d.1 (omega (arith, g.first)), c.0)
        ]

    -- the line that the code puts for the month
    module _ {x y : ℕ} (p : x ≡ mark_ahead a.known (ahead a) m) (q : y ≡ mark_ahead b.known (ahead b) m) where
      line_is : month_bytes (between start.lines) s t m ≡ mark_line (between start.lines) m x y
      unfolding month_bytes
      line_is = line_shape (between start.lines) m some_leap (mark_is g.a_ahead g.a_known ∙ sym p) (mark_is g.b_ahead g.b_known ∙ sym q)

      module _ {a' b' : Cursor} {m' : ℕ} (u : Passed m a a') (v : Passed m b b') (e : m' ≡ min (first_month (ahead a')) (first_month (ahead b'))) where
        pub go_on : {out' : Output} → PutsUpTo 10 out out' (mark_line (between out.lines) m x y) → Going s t start out' a' b' m'
        go_on {out'} put =
            let end = between start.lines in
            let same : out.lines ≡ start.lines = g.left.puts.puts.same_lines in
            record {
              a_known = u.1 ∙ g.a_known;
              b_known = v.1 ∙ g.b_known;
              a_ahead = later_month (a_next a' u) m' (omega (arith, rises a' b' m' u v e)) (omega arith);
              b_ahead = later_month (b_next b' v) m' (omega (arith, rises a' b' m' u v e)) (omega arith);
              first = e;
              bytes = g.bytes + 10;
              room = omega (arith, g.room, one_more a' b' u v);
              left =
                  more g.left (few {most = 10} put (ap (λ (lines : Bool). mark_line (between lines) m x y) (sym same)) (omega arith))
                  (first_line end s t m h ∙ (ap (λ (l : List ℕ). l ++ months_bytes end s t (m + 1) (past_months - (m + 1))) line_is
                  ∙ ap (λ (l : List ℕ). mark_line end m x y ++ l) (between_leaps end (a_next a' u) (b_next b' v) m' e)))
                  (omega arith);
            }
