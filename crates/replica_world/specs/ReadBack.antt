-- The pages that the TimeMap of an original makes for its readers: all at once, or an index and its pages.
use Rattle.std.specs.Prelude.{ℕ, List, [], map, All, IsTrue}
use Rattle.std.specs.List.Sorted.{IsStrictlySortedBy}
use Rattle.memento_time.specs.declared.mementos.Memento.{Memento}
use Rattle.memento_time.specs.Mementos.{IsMemento, memento_cmp}
use Rattle.timemap_reader.specs.declared.page.Page.{Page}
use Rattle.timemap_reader.specs.Address.{is_http_target}
use Rattle.timemap_writer.specs.Pages.{numbers, page_address}

-- mementos as a TimeMap lists them, in order and each once, of addresses that begin with `http://` or `https://`
pub record AreOnWeb (mementos : List Memento) : Type 0 where
  pub sorted : IsStrictlySortedBy memento_cmp mementos
  pub each : All IsMemento mementos
  pub http : All (λ m. IsTrue (is_http_target m.uri)) mementos

-- the page that says just these mementos: no further TimeMap, and nothing left out
abbrev pub page_of : List Memento → Page
page_of mementos = record { mementos = mementos; further = []; dropped = 0 }

-- the page that says just the pages of these mementos as further TimeMaps, in order
abbrev pub index_of : List ℕ → List ℕ → List Memento → Page
index_of base original mementos =
    record { mementos = []; further = map (page_address base original) (numbers mementos); dropped = 0 }
