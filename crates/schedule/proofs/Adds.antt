-- A well-formed schedule is made by adding its leaps to the blank one.
-- Assumes nothing.
use Rattle.std.proofs.Common.{◌≡◌, List, [], ◌∷◌, ◌++◌, ◌∙◌, append_assoc, append-nil}
use Rattle.schedule.specs.Schedule.{Leap, Schedule, blank_schedule}
use Rattle.schedule.specs.Answers.{with_leap, accepted}

-- a schedule with the leaps of a list more
unfoldable pub adds : Schedule → List Leap → Schedule
adds s [] = s
adds s (l ∷ ls) = adds (with_leap s l.month l.sign) ls

-- the schedule that the leaps of a list make
adds_are : (ls : List Leap) (s : Schedule) → adds s ls ≡ record { leaps = s.leaps ++ ls; expiry = s.expiry }
unfolding adds
adds_are [] s = rw (append-nil s.leaps)
adds_are (l ∷ ls) s = adds_are ls (with_leap s l.month l.sign) ∙ rw (append_assoc s.leaps (l ∷ []) ls)

-- the leaps of a schedule, added to the blank one, make it
pub made_again : (s : Schedule) → accepted (adds blank_schedule s.leaps) s.expiry ≡ record { number = 0; place = 0; schedule = s }
made_again s = rw (adds_are s.leaps blank_schedule)
