-- What is asked of an original, and the text that answers it.
use Rattle.std.specs.Prelude.{ℕ, List, ◌++◌, Option, Some, None, codes, bytes_eq, if◌then◌else◌}
use Rattle.memento_time.specs.declared.mementos.Memento.{Memento}
use Rattle.memento_sets.specs.MementoSets.{Mementos}
use Rattle.memento_sets.specs.Sets as set
use Rattle.memento_index.specs.Choice.{nearest, last}
use Rattle.timemap_writer.specs.TimeMap.{timemap_text}
use Rattle.timemap_formats.specs.declared.forms.Form.TheVariants as other
use Rattle.timemap_formats.specs.Forms.{listing_text}
use Rattle.timemap_formats.specs.Readback.{timemap_listing}
use Rattle.single_questions.specs.declared.wants.TextForm.{TextForm}
use Rattle.single_questions.specs.declared.wants.TextForm.TheVariants.{Link, Json, Cdxj}
use Rattle.single_questions.specs.declared.wants.Want.{Want}
use Rattle.single_questions.specs.declared.wants.Want.TheVariants.{TimeMap, TimeGate}

-- the form with a name
abbrev pub form_named : List ℕ → Option TextForm
form_named name =
    if bytes_eq name (codes "link") then Some Link
    else (if bytes_eq name (codes "json") then Some Json
    else (if bytes_eq name (codes "cdxj") then Some Cdxj else None))

-- The TimeMap of an original in a form: the text that a service at this base shows at the form's address. In JSON it
-- has no end of a line, so one is added.
abbrev pub timemap_in : TextForm → List ℕ → List ℕ → List Memento → List ℕ
timemap_in Link base original mementos = timemap_text base original mementos
timemap_in Json base original mementos = listing_text other.Json (timemap_listing base original mementos) ++ codes "\n"
timemap_in Cdxj base original mementos = listing_text other.Cdxj (timemap_listing base original mementos)

-- the memento that a TimeGate names
abbrev pub chosen : Option ℕ → Mementos → Option Memento
chosen None mementos = last mementos
chosen (Some second) mementos = nearest mementos second

-- a line with a memento's address; an empty line if there is none
abbrev pub address_line : Option Memento → List ℕ
address_line None = codes "\n"
address_line (Some m) = m.uri ++ codes "\n"

-- what is answered if an original has these mementos
unfoldable pub answer_text : Want → List ℕ → List ℕ → Mementos → List ℕ
answer_text (TimeMap form) base original mementos = timemap_in form base original (set.items mementos)
answer_text (TimeGate asked) base original mementos = address_line (chosen asked mementos)
