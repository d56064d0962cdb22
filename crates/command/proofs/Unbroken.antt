-- No byte is LF in the lists, the words and the dates of which answers are made. Assumes nothing.
use mathlib.Core.Path.{refl}
use mathlib.Core.Bool.{false}
use mathlib.Core.List.{List, [], ◌∷◌}
use Prim.Native.Nat.{ℕ, ◌+◌, ◌-◌}
use Rattle.ascii.specs.Ascii.{ascii}
use Rattle.ascii.proofs.Fields.{has_no}
use Rattle.ascii.proofs.Unbroken.{Unbroken, empty, more, append, either, digit, in_decimal, with_sign_lem, in_refusal}
use Rattle.calendar.specs.Calendar.{month_start, month_of}
use Rattle.schedule.specs.declared.Leap.{Leap}
use Rattle.schedule.specs.Schedule.{Schedule, expiry_month}
use Rattle.text.specs.Write.{digits, text_from, text_of}
use Rattle.compare.proofs.Shown.{sign}
use Rattle.line.specs.declared.words.Word.{Word}
use Rattle.line.specs.declared.words.Word.TheVariants.{Show, Nybbles, Text, Dtai, Tai, Utc, Uts, Unsmooth, Compare, Longer}
use Rattle.std.specs.Prelude.{Option, Some, None}
use Rattle.ascii.specs.Lines.{between}
use Rattle.line.specs.Words.{usage, expected}
use Rattle.show.specs.Show.{date, date_of, stretch, stretches, shown}

-- ---- text lists

gap : (g : ℕ) → Unbroken (digits g)
unfolding digits
gap g = search (either, digit, empty) depth 6

text_from_lem : (from : ℕ) (ls : List Leap) (expiry : ℕ) → Unbroken (text_from from ls expiry)
unfolding text_from
text_from_lem from [] expiry = search (append, gap, more, empty)
text_from_lem from (l ∷ ls) expiry = let rest = text_from_lem l.month ls expiry in search (append, gap, more, sign, empty)

pub in_text : (s : Schedule) → Unbroken (text_of s)
unfolding text_of
in_text s = text_from_lem 0 s.leaps (expiry_month s)

-- ---- what was expected

pub in_expected : (w : Option Word) → Unbroken (expected w)
unfolding has_no expected usage
in_expected (Some Show) = record { none = refl }
in_expected (Some Nybbles) = record { none = refl }
in_expected (Some Text) = record { none = refl }
in_expected (Some Dtai) = record { none = refl }
in_expected (Some Tai) = record { none = refl }
in_expected (Some Utc) = record { none = refl }
in_expected (Some Uts) = record { none = refl }
in_expected (Some Unsmooth) = record { none = refl }
in_expected (Some Compare) = record { none = refl }
in_expected (Some Longer) = record { none = refl }
in_expected None = record { none = refl }

-- ---- stretches

in_date : (m d : ℕ) → Unbroken (date m d)
unfolding date
in_date m d = search (append, in_decimal, more, digit, empty) depth 8

in_day : (day : ℕ) → Unbroken (date_of day)
unfolding date_of
in_day day = in_date (month_of day) (day - month_start (month_of day) + 1)

in_stretch : (s : Schedule) (from to : ℕ) → Unbroken (stretch s from to)
unfolding stretch
in_stretch s from to = search (append, more, in_day, with_sign_lem)

pub in_between : Unbroken (between false)
unfolding has_no between
in_between = record { none = refl }

in_stretches : (s : Schedule) (from : ℕ) (ls : List Leap) → Unbroken (stretches false s from ls)
unfolding stretches
in_stretches s from [] = in_stretch s from s.expiry
in_stretches s from (l ∷ ls) = let rest = in_stretches s (month_start l.month) ls in search (append, in_stretch, in_between)

unknown : Unbroken (ascii " unknown")
unfolding has_no
unknown = record { none = refl }

pub in_shown : (s : Schedule) → Unbroken (shown false s)
unfolding shown
in_shown s = search (either, append, in_stretches, in_between, in_day, unknown, in_refusal)
