-- What the code passes as the place of a text: its address, and the links that are stated there.
use Rattle.std.specs.Prelude.{ℕ, List, ◌++◌}
use Rattle.link_format.specs.Grammar.{Link}
use Rattle.memento_time.specs.declared.mementos.Memento.{Memento}
use Rattle.timemap_writer.specs.declared.lines.Place.{Place}
use Rattle.timemap_writer.specs.TimeMap.{head_links}

-- the address of a place
abbrev pub address_of : Place → List ℕ
address_of place = place.service.now ++ place.path.now ++ place.original.now

-- what a text at a place states first
abbrev pub head_at : Place → List Memento → List Link
head_at place mementos = head_links place.service.now place.original.now (address_of place) mementos
