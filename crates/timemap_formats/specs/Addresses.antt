-- The addresses that a listing gives of its original.
use Rattle.std.specs.Prelude.{ℕ, List, ◌++◌, codes}
use Rattle.timemap_formats.specs.declared.listing.Head.{Head}

-- where a listing in this form stands, at what follows the form in its address
abbrev pub form_address : List ℕ → List ℕ → List ℕ → List ℕ
form_address base form place = base ++ codes "/timemap/" ++ form ++ codes "/" ++ place

-- where the TimeGate stands
abbrev pub timegate_at : Head → List ℕ
timegate_at head = head.base ++ codes "/timegate/" ++ head.original

-- where the TimeMap of the original stands in this form
abbrev pub timemap_at : List ℕ → Head → List ℕ
timemap_at form head = form_address head.base form head.original

-- where the listing itself stands in this form
abbrev pub itself_at : List ℕ → Head → List ℕ
itself_at form head = form_address head.base form head.place
