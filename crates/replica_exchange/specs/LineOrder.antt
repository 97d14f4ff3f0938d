-- The order of a text's lines, said without the orders of the maps and sets that are written.
use Rattle.std.specs.Prelude.{List, ℕ}
use Rattle.std.specs.declared.cmp.Ordering.{Ordering}
use Rattle.std.specs.Ordering.{nat_cmp, ordering_then}
use Rattle.std.specs.Cmp.Lexicographic.{slice_cmp}
use Rattle.memento_time.specs.declared.mementos.Memento.{Memento}
use Rattle.harvest_lattice.specs.Lattice.{Key}

-- by bytes, a prefix before the longer text
abbrev pub by_bytes : List ℕ → List ℕ → Ordering
by_bytes x y = slice_cmp nat_cmp x y

-- by the archive's bytes, then by the original's
abbrev pub by_archive_then_original : Key → Key → Ordering
by_archive_then_original x y = ordering_then (by_bytes x.0 y.0) (by_bytes x.1 y.1)

-- by second, then by the address's bytes
abbrev pub by_second_then_address : Memento → Memento → Ordering
by_second_then_address m n = ordering_then (nat_cmp m.at n.at) (by_bytes m.uri n.uri)
