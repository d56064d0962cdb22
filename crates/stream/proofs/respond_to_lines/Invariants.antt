-- The lines so far are answered into an output that was empty; the rest of the input falls.
use Rattle.std.proofs.Common.{◌≡◌, false, length}
use Rattle.stream.proofs.Streams.{Going}
use Rattle.stream.proofs.respond_to_lines.Given as goal

abbrev pub invariant-loop-out : goal.invariant-loop-out
invariant-loop-out g l = record {
  empty : l.initial.out.at ≡ 0;
  one_line : l.out.lines ≡ false;
  same_buffer : l.out.bytes.ghost_name ≡ l.initial.out.bytes.ghost_name;
  same_lent : g.R.Responder.lent l.responder ≡ g.R.Responder.lent l.initial.responder;
  going : Going g.R.Responder.answering (g.R.Responder.state l.initial.responder) l.input l.initial.out l.out (g.R.Responder.state l.responder) l.rest;
}

abbrev pub decreases-loop-out : goal.decreases-loop-out
decreases-loop-out g l = length l.rest
