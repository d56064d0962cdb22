-- `stream::respond_to_lines` meets its contract: it stops where the output is full, or where no line is complete. Assumes nothing.
use Rattle.std.proofs.Common.{rules, ◌∙◌, arith}
use Rattle.stream.proofs.Streams.{begin, full, last, step, lent}
use Rattle.stream.proofs.respond_to_lines.Goals as goal
use Rattle.stream.proofs.respond_to_lines.Goals.{else-loop-out-test, then-loop-out-test+in_default}

pub loop-out-init : goal.loop-out-init
loop-out-init g c = record {
  empty = c.new-out.ensures.at_start;
  one_line = c.new-out.ensures.same_lines;
  same_buffer = search rules;
  same_lent = search rules;
  going = begin _ _ _ _ c.new-out.ensures.at_start;
}

pub loop-out-preserved : goal.loop-out-preserved
loop-out-preserved g c =
    let answer = c.respond.ensures.puts c.loop-out.invariant.one_line in
    record {
      empty = c.loop-out.invariant.empty;
      one_line = answer.puts.same_lines ∙ c.loop-out.invariant.one_line;
      same_buffer = answer.puts.same_buffer ∙ c.loop-out.invariant.same_buffer;
      same_lent = c.respond.ensures.same_lent ∙ c.loop-out.invariant.same_lent;
      going = step _ c.loop-out.invariant.empty c.loop-out.invariant.going c.in-Some.ensures (omega arith) answer c.respond.ensures.next;
    }

pub returns-clause-answers : goal.returns-clause-answers
returns-clause-answers g c =
    lent _ c.args.input.now c.loop-out.rest.now c.new-out.result c.loop-out.out
    (elim c.loop-out-test.branch [
      | else-loop-out-test w ↦ full _ c.loop-out.invariant.empty c.loop-out.invariant.going (omega arith)
      | then-loop-out-test+in_default w ↦ last _ c.loop-out.invariant.empty c.loop-out.invariant.going w.in_default.ensures
    ])
    c.new-out.ensures.same_bytes (search rules)
