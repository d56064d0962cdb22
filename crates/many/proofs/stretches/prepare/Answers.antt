-- `many::stretches::prepare` meets its contract. Assumes nothing.
use Rattle.many.proofs.Preparing.{tallies_size, tallies_fenced, last_inside, guesses_clear, list_prepared}
use Rattle.many.proofs.stretches.prepare.Goals as goal

pub lay_guesses-requires : goal.lay_guesses-requires
lay_guesses-requires c =
    let w = c.args.list.formed in
    let l = c.last_day.ensures in
    let f = c.lay_far.ensures in
    let g = c.lay_starts.ensures in
    let h = c.lay_tallies.ensures in
    let size = c.requires.0 in
    let clear = c.requires.1 in
    (tallies_size _ w l _ size clear f g h, tallies_fenced _ w l _ size clear f g h, last_inside _ w l _ size clear f g h, guesses_clear _ w l _ size clear f g h)

pub returns : goal.returns
returns c =
    list_prepared _ c.args.list.formed c.last_day.ensures _ c.requires.0 c.requires.1 c.lay_far.ensures c.lay_starts.ensures c.lay_tallies.ensures c.lay_guesses.ensures
