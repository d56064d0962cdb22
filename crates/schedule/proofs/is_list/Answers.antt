-- `schedule::is_list` meets its contract. Assumes nothing.
use Rattle.std.proofs.Common.{sym}
use Rattle.schedule.proofs.Meant.{too_many, too_late, unfit, list_by}
use Rattle.schedule.proofs.is_list.Goals as goal

pub returns-then-words-gt256 : goal.returns-then-words-gt256
returns-then-words-gt256 c =
    let args = c.args in
    let if1 = c.if-words-gt256 in
    sym (too_many args.words.now if1.true)

pub returns-then-words-gt-END_DAY : goal.returns-then-words-gt-END_DAY
returns-then-words-gt-END_DAY c =
    let args = c.args in
    let if2 = c.if-words-gt-END_DAY in
    sym (too_late args.words.now if2.true)

pub returns-then-leaps_fit : goal.returns-then-leaps_fit
returns-then-leaps_fit c =
    let rest_clear = c.rest_clear in
    let if3 = c.if-leaps_fit in
    let args = c.args in
    let if1 = c.if-words-gt256 in
    let if2 = c.if-words-gt-END_DAY in
    let leaps_fit = c.leaps_fit in
    list_by args.words.now if1.false leaps_fit.result leaps_fit.ensures if3.true if2.false rest_clear.result rest_clear.ensures

pub returns-else-leaps_fit : goal.returns-else-leaps_fit
returns-else-leaps_fit c =
    let args = c.args in
    let if3 = c.if-leaps_fit in
    let if1 = c.if-words-gt256 in
    let leaps_fit = c.leaps_fit in
    sym (unfit args.words.now if1.false leaps_fit.result leaps_fit.ensures if3.false)
