-- `schedule::List::extends` meets its contract. Assumes nothing.
use Rattle.std.proofs.Common.{◌≡◌, ◌≤◌, sym, ◌∙◌, arith}
use Rattle.schedule.specs.WordLayout.{count_word, meant}
use Rattle.schedule.proofs.Meant.{count_is}
use Rattle.schedule.proofs.GoesOn.{Same, unlike, alike, fewer, others, as_many, tells}
use Rattle.schedule.proofs.list.List.extends.Goals as goal

pub returns-then-n-m : goal.returns-then-n-m
returns-then-n-m c =
    let a = c.args.self in
    let b = c.args.shorter in
    sym (fewer a.words.now b.words.now a.formed b.formed (omega (arith, c.count-m.ensures, c.count-n.ensures, c.if-n-m.true, count_is a.words.now a.formed, count_is b.words.now b.formed)))

pub returns-then-ne : goal.returns-then-ne
returns-then-ne c =
    let a = c.args.self in
    let b = c.args.shorter in
    let m : c.count-m.result ≡ count_word b.words.now = c.count-m.ensures ∙ count_is b.words.now b.formed in
    sym (others a.words.now b.words.now a.formed b.formed (unlike (rw m at c.ne.ensures) c.if-ne.true))

pub returns-then-m-n : goal.returns-then-m-n
returns-then-m-n c =
    let a = c.args.self in
    let b = c.args.shorter in
    let m : c.count-m.result ≡ count_word b.words.now = c.count-m.ensures ∙ count_is b.words.now b.formed in
    let n : c.count-n.result ≡ count_word a.words.now = c.count-n.ensures ∙ count_is a.words.now a.formed in
    let same : Same a.words.now b.words.now a.formed b.formed = alike (rw m at c.ne.ensures) c.if-ne.false in
    let later : (meant b.words.now).expiry ≤ (meant a.words.now).expiry = omega (arith, c.expiry-expiry.ensures, c.expiry.ensures, c.if-expiry.false) in
    c.is_expired.ensures
    ∙ tells a.words.now b.words.now a.formed b.formed later (omega (arith, m, n, c.if-n-m.false)) same (omega (arith, m, n, c.if-m-n.true))
    c.expiry-expiry.ensures (rw m at c.month.ensures)

pub returns : goal.returns
returns c =
    let a = c.args.self in
    let b = c.args.shorter in
    let m : c.count-m.result ≡ count_word b.words.now = c.count-m.ensures ∙ count_is b.words.now b.formed in
    let n : c.count-n.result ≡ count_word a.words.now = c.count-n.ensures ∙ count_is a.words.now a.formed in
    let same : Same a.words.now b.words.now a.formed b.formed = alike (rw m at c.ne.ensures) c.if-ne.false in
    let later : (meant b.words.now).expiry ≤ (meant a.words.now).expiry = omega (arith, c.expiry-expiry.ensures, c.expiry.ensures, c.if-expiry.false) in
    sym (as_many a.words.now b.words.now a.formed b.formed later (omega (arith, m, n, c.if-n-m.false)) same (omega (arith, m, n, c.if-m-n.false)))
