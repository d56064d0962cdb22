-- `command::hex`'s `read` meets its contract: 4,096 bytes are room enough for a line of hex. Assumes nothing.
use Rattle.std.proofs.Common.{ℕ, ◌≤◌, List, Result, length, take, replicate, refl, arith, rules}
use Rattle.ascii.specs.Hex.{unhex}
use Rattle.ascii.specs.Output.{Held}
use Rattle.ascii.proofs.Putting.{held, whole}
use Rattle.schedule.specs.Answers.{ReadsInto}
use Rattle.schedule.specs.declared.ParseError.{ParseError}
use Rattle.nybbles.specs.Read.{read_nybbles}
use Rattle.command.proofs.Unhexed.{unhex_length}
use Rattle.command.proofs.hex.Hex.read.Goals as goal

-- the bytes that a local output holds are read
held_read : {bytes before after words : List ℕ} {n : ℕ} {r : Result (Unit {0}) ParseError} → ReadsInto (read_nybbles (take n after)) r words → Held bytes before after n
    → length bytes ≤ length before → ReadsInto (read_nybbles bytes) r words
held_read h p l = rw (← (whole p l).1) h

pub returns : goal.returns
returns c =
    let room : length (unhex c.args.self.digits.now) ≤ length {A = ℕ} (replicate 4096 0) = omega (arith, c.args.self.short, unhex_length c.args.self.digits.now) in
    held_read c.read_nybbles.ensures (held c.put_unhex.ensures c.new-bytes.ensures.at_start c.new-bytes.ensures.same_bytes (search rules) refl) room
