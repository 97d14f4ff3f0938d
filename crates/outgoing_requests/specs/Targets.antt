-- Which target a request for a URL names (RFC 9112, section 3.2.1).
--
-- It is the URL's own text, and not what `url` would write: dot segments in an archived address must stay. So it has to
-- begin where `url` ends the authority. The text is clean (`IsClean`): it has no tab, line feed or space, of which
-- `url` leaves out some.
use Rattle.std.specs.Prelude.{◌≡◌, ℕ, Bool, not, ◌||◌, ◌==◌, List, [], ◌∷◌, drop, codes, Option, Some, None}
use Rattle.std.specs.Prelude.{if◌then◌else◌}
use Rattle.std.specs.List.{position_or_len}
use Rattle.memento_time.specs.Text.{before_fragment}
use Rattle.timemap_reader.specs.Address.{starts_with_any_case}

-- `/`, or `\`, which is read as `/` in an http URL (URL Standard, section 4.4)
abbrev pub is_slash : ℕ → Bool
is_slash b = b == 0x2F || b == 0x5C

-- the byte ends the authority: it begins the path or the query
abbrev pub ends_authority : ℕ → Bool
ends_authority b = is_slash b || b == 0x3F

-- the text from its first byte on that passes the test
abbrev pub from_first : (ℕ → Bool) → List ℕ → List ℕ
from_first test text = drop (position_or_len test text) text

-- The text behind the slashes in front of the authority. There may be any number of them, also none.
abbrev pub behind_slashes : List ℕ → List ℕ
behind_slashes text = from_first (λ b. not (is_slash b)) text

-- the path and the query, without the slash that begins the path
abbrev pub without_slash : List ℕ → List ℕ
without_slash [] = []
without_slash (b ∷ bs) = if is_slash b then bs else b ∷ bs

-- the path and the query of what stands behind the scheme; the path begins with `/`, also if nothing or `\` stands
-- for it
abbrev pub path_and_query : List ℕ → List ℕ
path_and_query rest = 0x2F ∷ without_slash (from_first ends_authority (behind_slashes (before_fragment rest)))

-- the target of a URL, if it is one of the scheme `http`
abbrev pub target_of : List ℕ → Option (List ℕ)
target_of url = if starts_with_any_case url (codes "http:") then Some (path_and_query (drop 5 url)) else None

-- worked examples
pub record AreTargets : Type 0 where
  pub own_text : target_of (codes "http://a.example/web/2000/http://b.example/x/../y?z#top")
      ≡ Some (codes "/web/2000/http://b.example/x/../y?z")
  pub query : target_of (codes "http://a.example?x=/y") ≡ Some (codes "/?x=/y")
  pub nothing : target_of (codes "HTTP://a.example") ≡ Some (codes "/")
  pub fragment : target_of (codes "http://a.example#/x") ≡ Some (codes "/")
  pub port : target_of (codes "http://127.0.0.1:8080//x") ≡ Some (codes "//x")
  pub three_slashes : target_of (codes "http:///127.0.0.1:8080/x?y") ≡ Some (codes "/x?y")
  pub one_slash : target_of (codes "http:/a.example/x") ≡ Some (codes "/x")
  pub no_slash : target_of (codes "http:a.example/x") ≡ Some (codes "/x")
  pub backslashes : target_of (codes "http:\\\\a.example/x") ≡ Some (codes "/x")
  pub ends_in_backslash : target_of (codes "http://a.example\\x\\y") ≡ Some (codes "/x\\y")
  pub https : target_of (codes "https://a.example/x") ≡ None
