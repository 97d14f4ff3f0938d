-- The labels that the code passes, as the format has them.
use Rattle.std.specs.Prelude.{List, [], ◌∷◌, ◌++◌, map}
use Rattle.service_status.specs.declared.exposition.Label.{Label}
use Rattle.service_status.specs.Exposition as exposition

-- a label
abbrev pub as_label : Label → exposition.Label
as_label label = (label.name.now, label.value.now)

-- labels
abbrev pub as_labels : List Label → List exposition.Label
as_labels labels = map as_label labels

-- a label behind others
abbrev pub behind : List Label → Label → List exposition.Label
behind labels last = as_labels labels ++ as_label last ∷ []
