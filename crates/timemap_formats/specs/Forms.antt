-- The forms beside link-format.
use Rattle.std.specs.Prelude.{ℕ, List, codes}
use Rattle.timemap_formats.specs.declared.forms.Form.{Form}
use Rattle.timemap_formats.specs.declared.forms.Form.TheVariants.{Json, Cdxj}
use Rattle.timemap_formats.specs.declared.listing.Listing.{Listing}
use Rattle.timemap_formats.specs.Json.{json_text}
use Rattle.timemap_formats.specs.Cdxj.{cdxj_text}

-- where TimeMaps in a form stand, each followed by its original
abbrev pub front_of : Form → List ℕ
front_of Json = codes "/timemap/json/"
front_of Cdxj = codes "/timemap/cdxj/"

-- the media type of a form
abbrev pub media_type : Form → List ℕ
media_type Json = codes "application/json"
media_type Cdxj = codes "application/cdxj+ors"

-- a listing in a form
abbrev pub listing_text : Form → Listing → List ℕ
listing_text Json listing = json_text listing
listing_text Cdxj listing = cdxj_text listing
