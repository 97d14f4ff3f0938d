use Rattle.delta_parts.specs.PartText.{place, behind_word}
use Rattle.delta_parts.proofs.TextLemmas.{err_with, word_leaves}
use Rattle.delta_parts.proofs.reading.read_place_line.Goals as goal

pub returns-clause-refused : goal.returns-clause-refused
returns-clause-refused c =
    let text = c.args.text.now in
    let word = c.args.word.now in
    err_with place (behind_word word place) text c.in_ok-line.line.now (word_leaves word place text c.in_ok-line.line.now c.in_ok-line.ensures.found)
    c.read_place.result c.read_place.ensures.refused
