-- What holds of every answer that a mark chooses from holds of the answer chosen.
-- Assumes nothing.
use mathlib.Core.Path.{◌≡◌, refl}
use Rattle.std.specs.Prelude.{Option, Some, None}
use Rattle.schedule.specs.Answers.{Reading}
use Rattle.schedule.specs.declared.Sign.{Sign}
use Rattle.text.specs.declared.Mark.{Mark}
use Rattle.text.specs.declared.Mark.TheVariants.{Leaps, Expires}
use Rattle.text.specs.Read.{by_mark}

pub by_mark_lem : (P : Reading → Type 0) (m : Option Mark) {n e : Reading} {l : Sign → Reading} → P n → (m ≡ Some Expires → P e) → ((k : Sign) → m ≡ Some (Leaps k) → P (l k)) → P (by_mark m n e l)
by_mark_lem P None n e l = n
by_mark_lem P (Some Expires) n e l = e refl
by_mark_lem P (Some (Leaps k)) n e l = l k refl

-- and where it matters that the byte is no mark
pub by_mark_exactly : (P : Reading → Type 0) (m : Option Mark) {n e : Reading} {l : Sign → Reading} → (m ≡ None → P n) → (m ≡ Some Expires → P e) → ((k : Sign) → m ≡ Some (Leaps k) → P (l k)) → P (by_mark m n e l)
by_mark_exactly P None n e l = n refl
by_mark_exactly P (Some Expires) n e l = e refl
by_mark_exactly P (Some (Leaps k)) n e l = l k refl
