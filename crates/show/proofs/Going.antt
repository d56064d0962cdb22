-- The loop over the leaps: what holds before each leap, and what is put when it has ended.
-- Assumes nothing.
use mathlib.Core.Bool.{Bool, true}
use mathlib.Core.Path.{◌≡◌, refl, sym, ap, ◌∙◌}
use mathlib.Core.List.{List, [], ◌∷◌, ◌++◌, append_assoc}
use Prim.Native.Nat.{ℕ, ◌+◌, ◌*◌, ◌≤◌, ◌<◌, min}
use native.Mathlib.Omega.{arith}
use lib.ListN.{length}
use Rattle.calendar.specs.Calendar.{first_day, last_month, month_start}
use Rattle.calendar.proofs.Laws.{start_zero, start_from, start_lt, start_min}
use Rattle.ascii.specs.declared.output.Output.{Output}
use Rattle.ascii.specs.Output.{PutsUpTo}
use Rattle.ascii.proofs.Putting.{up_to, few}
use Rattle.ascii.proofs.LeftUpTo.{LeftUpTo, none_yet, more, with_rest}
use Rattle.ascii.specs.Lines.{between}
use Rattle.schedule.specs.declared.Leap.{Leap}
use Rattle.schedule.specs.Schedule.{Schedule, gaps_fit, well_formed}
use Rattle.schedule.proofs.Gaps.{fits_lt, first, later, before_end, parts}
use Rattle.schedule.proofs.WordLayout.{within}
use Rattle.show.specs.Show.{stretch, stretches}
use Rattle.show.specs.Private.{shown_from}

next_shown : (lines : Bool) (s : Schedule) (from : ℕ) (l : Leap) (ls : List Leap)
    → shown_from lines s from (l ∷ ls) ≡ (stretch s from (month_start l.month) ++ between lines) ++ shown_from lines s (month_start l.month) ls
unfolding shown_from stretches
next_shown lines s from l ls = simp append_assoc

-- in the stretch that starts on day `from`, the first of a month, with leaps `ls` after it: all but what is shown from there on is put, with at most 77
-- bytes a leap passed
pub record Going (s : Schedule) (start out : Output) (from : ℕ) (ls : List Leap) : Type 0 where
  pub month : ℕ
  pub starts : from ≡ month_start month
  pub gaps : gaps_fit month ls s.expiry ≡ true
  pub end : s.expiry ≤ 114_366
  pub passed : ℕ
  pub few : passed + length ls ≤ 256
  pub left : LeftUpTo (passed * 77) start out (shown_from start.lines s first_day s.leaps) (shown_from start.lines s from ls)

pub begin : (s : Schedule) (out : Output) → well_formed s ≡ true → Going s out out first_day s.leaps
begin s out w = record {
  month = 0;
  starts = sym start_zero;
  gaps = (parts s w).gaps;
  end = (parts s w).end;
  passed = 0;
  few = omega (arith, (parts s w).room);
  left = none_yet out refl;
}

-- a stretch starts before the expiry
pub before_expiry : {s : Schedule} {start out : Output} {from : ℕ} {ls : List Leap} → Going s start out from ls → (first_day ≤ from) × (from < s.expiry)
before_expiry {s} {ls = ls} g = (omega (arith, g.starts, start_from g.month), omega (arith, g.starts, before_end ls g.month s.expiry g.gaps))

module _ {s : Schedule} {start out : Output} {from : ℕ} {l : Leap} {ls : List Leap} (g : Going s start out from (l ∷ ls)) where
  after : gaps_fit l.month ls s.expiry ≡ true
  after = later g.month l ls s.expiry g.gaps

  -- the leap takes effect after the stretch's first day, and before the expiry
  next_start : (from < month_start l.month) × (month_start l.month < s.expiry)
  next_start = (omega (arith, g.starts, start_lt (fits_lt g.month l.month (first g.month l ls s.expiry g.gaps))), before_end ls l.month s.expiry after)

  module _ {day : ℕ} (e : day ≡ month_start (min l.month last_month)) where
    -- the day that the code finds
    start_of : day ≡ month_start l.month
    start_of = e ∙ start_min (within l.month (omega (arith, next_start.1, g.end)))

    pub in_order : (first_day ≤ from) × (from < day) × (day ≤ s.expiry)
    in_order = ((before_expiry g).0, omega (arith, start_of, next_start.0), omega (arith, start_of, next_start.1))

    -- the stretch up to the leap, and what stands after it
    pub go_on : {out' out'' : Output} → PutsUpTo 75 out out' (stretch s from day) → PutsUpTo 2 out' out'' (between out'.lines) → Going s start out'' day ls
    go_on {out'} {out''} p q =
        let same : out'.lines ≡ start.lines = p.puts.same_lines ∙ g.left.puts.puts.same_lines in
        record {
          month = l.month;
          starts = start_of;
          gaps = after;
          end = g.end;
          passed = g.passed + 1;
          few = omega (arith, g.few);
          left = more g.left (up_to {most = 77} p (few {most = 2} q (ap between (sym same)) (omega arith)) refl (omega arith)) (rw start_of (next_shown start.lines s from l ls)) (omega arith);
        }

-- after the last leap: the last stretch, and the day from which DTAI is unknown
pub ended : {s : Schedule} {start out out' : Output} {from : ℕ} → Going s start out from [] → PutsUpTo 111 out out' (shown_from out.lines s from [])
    → PutsUpTo 20000 start out' (shown_from start.lines s first_day s.leaps)
ended {s} {from = from} g p =
    let rest = few {most = 111} p (ap (λ (lines : Bool). shown_from lines s from []) (sym g.left.puts.puts.same_lines)) (omega arith) in
    with_rest g.left rest (omega (arith, g.few))
