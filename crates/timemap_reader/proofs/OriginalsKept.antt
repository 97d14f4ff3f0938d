-- What is read as an original reads as itself.
use Rattle.std.proofs.Common.{◌≡◌, ℕ, ◌+◌, ◌-◌, ◌<◌, Bool, true, false, not, ◌||◌, ◌==◌, nat_lt, ltb, List, [], ◌∷◌, ◌++◌, length, get_or, take, drop}
use Rattle.std.proofs.Common.{Some, None, Ok, Err, All, sym, refl, ap, ◌∙◌, subst, inl, inr, ⊎_elim, append_assoc, append-nil, arith, length-append}
use Rattle.std.proofs.Common.{take_at, drop_at, take_all, codes, lit<}
use Rattle.std.specs.Prelude.{Option, IfSome, is_some, unwrap_or, option_map, decimal, reverse, bytes_eq, if◌then◌else◌}
use Rattle.std.specs.List.{prefix_len}
use Rattle.std.proofs.lemmas.Bool.{cond-true, cond-false, cases_Bool, true≢false, lt-leb, ne_eqb, and_left}
use Rattle.std.proofs.lemmas.Bool.Decides.{nat_tests}
use Rattle.std.proofs.Math.Nat.{sub-zero}
use Rattle.std.specs.Int.{IsInRange}
use Rattle.std.specs.Net.Addr.{ipv4_octets, ipv6_segments}
use Rattle.std.specs.Net.Text.{hex_groups_text}
use Rattle.std.proofs.NetLemmas.Alphabet.{IsDigitOrDot, IsHexOrColon, All-ipv4_text, All-hex_groups_text}
use Rattle.std.proofs.lemmas.List.{length-reverse, get_or-reverse}
use Rattle.std.proofs.lemmas.List.Concat.{flat_map-append}
use Rattle.std.proofs.lemmas.List.Elements.{All-nil, All-cons, All-head, All-tail, All-append, All-weaker}
use Rattle.std.proofs.lemmas.Slice.Eq.{bytes_eq-Decides}
use Rattle.std.proofs.lemmas.Option.{none-some}
use Rattle.percent_encoding.specs.declared.ascii_set.TheConstants.{CONTROLS}
use Rattle.percent_encoding.specs.Percent.{IsKept, percent_encode_byte, percent_decode}
use Rattle.percent_encoding.proofs.AsciiSetLemmas.{ascii_from_kept}
use Rattle.percent_encoding.proofs.PercentLemmas.{IsByte, IsEscapeByte, EscapesPercent, All-percent_encode_byte, percent_decode-percent_encode}
use Rattle.url.specs.declared.sets.TheConstants.{FORBIDDEN_HOST, FORBIDDEN_DOMAIN, USERINFO, PATH, OPAQUE_PATH, SPECIAL_QUERY}
use Rattle.url.specs.declared.host.Host.{Host}
use Rattle.url.specs.declared.host.Host.TheVariants.{Domain, Ipv4, Ipv6}
use Rattle.url.specs.declared.scheme.SchemeType.{SchemeType}
use Rattle.url.specs.declared.scheme.SchemeType.TheVariants.{SpecialNotFile, NotSpecial}
use Rattle.url.specs.declared.error.ParseError.TheVariants.{EmptyHost}
use Rattle.url.specs.declared.slicing.Position.TheVariants.{BeforeScheme, BeforeUsername, AfterPort, AfterPath, AfterQuery}
use Rattle.url.specs.Input.{is_empty, when, is_c0_control_or_space, is_tab_or_new_line, trim_c0_control_and_space, strip_tabs_and_new_lines, split_once, rsplit_once}
use Rattle.url.specs.Scheme.{IsScheme, default_port, scheme_type, scheme_len, is_special, is_file, is_slash, is_scheme_byte}
use Rattle.url.specs.Host.{host_text, parse_host, parse_special_host, is_forbidden_in_domain, IsDomain, IsOpaqueHost, IsHostOf}
use Rattle.url.specs.Path.{segment_len, parse_path_start}
use Rattle.url.specs.Parts.{Parts, kind_of, has_authority, has_credentials, host_or_empty, text_between, text_before, query_set, IsPortOf, IsValidHead, IsValid}
use Rattle.url.specs.Head.{with_authority, head_only, without_tail}
use Rattle.url.specs.Parser.{Parsed, and_then, split_port, parse_port, lacks_host, parse_authority, with_path, skip_slashes, after_double_slash}
use Rattle.url.specs.Parser.{parse_body, with_tail, before_tail, parse_parts, base_for_scheme, split_scheme, parse_by_scheme, parse_url}
use Rattle.url.proofs.InputLemmas.{IsNot, Passes, StopsAt, split_once_at, split_once_none, prefix_len_at, filter_all, is_empty_nonempty, list_any_none}
use Rattle.url.proofs.SetLemmas.{passes_from_kept, kept_differs, All_kept_differs, All_kept_by_smaller, kept_from_escape}
use Rattle.url.proofs.SchemeLemmas.{scheme_bytes}
use Rattle.url.proofs.HostLemmas.{ascii_domain-kept}
use Rattle.url.proofs.HostRoundTrip.{All-decimal, parse_port-decimal, host_len-host_text}
use Rattle.url.proofs.Theorems.{parse_url-serialize_special}
use Rattle.url.proofs.PathLemmas.{rooted}
use Rattle.url.proofs.ValidLemmas.{with_own_tail, segment_list_kept, path_kept, hierarchical, special_has_authority, base_from_authority}
use Rattle.url.proofs.SetterLemmas.{own_credentials, host_is_some, own_host}
use Rattle.url.proofs.TextLemmas.{body_bytes, is_body_byte, All_one, All_kept, All_part, is_authority_byte, authority_bytes, query_byte}
use Rattle.url.proofs.RoundTrip.{All-query_text, split_at_sign, split_own_scheme, parse_own_path, stays_unless_file, stops_at_path}
use Rattle.url.proofs.ParsedCanonical.{before_special}
use Rattle.url_texts.specs.Followed.{begins_on_web, IsFollowed}
use Rattle.timemap_reader.specs.declared.address.TheConstants.{ESCAPED}
use Rattle.timemap_reader.specs.Address.{clean_byte_text, clean_text, is_http_scheme}
use Rattle.timemap_reader.specs.declared.original.OriginalFault.TheVariants.{TooLong}
use Rattle.timemap_reader.specs.Original.{Reading, within_limit, original_of_url, original_reading}
use Rattle.timemap_reader.proofs.Escapes.{clean_text_is, clean_text_clean, clean_text_nonempty}
use Rattle.memento_time.specs.Text.{is_clean_byte}

-- ---- a host in clean bytes is read as the host

-- what holds of a text and of the bytes of an escape holds of the clean text
All-clean_text : (P : ℕ → Type 0) → ((b : ℕ) → IsEscapeByte b → P b) → (xs : List ℕ) → All P xs → All P (clean_text xs)
All-clean_text P escape [] each = All-nil P
All-clean_text P escape (b ∷ xs) each =
    let rest = All-clean_text P escape xs (All-tail P b xs each) in
    ⊎_elim
    (λ clean. rw clean (All-cons P b (clean_text xs) (All-head P b xs each) rest))
    (λ other. rw other (All-append P (percent_encode_byte b) (clean_text xs) (All-weaker IsEscapeByte P escape (percent_encode_byte b) (All-percent_encode_byte b)) rest))
    (cases_Bool (is_clean_byte b))

decoded : (d : List ℕ) → All (IsKept FORBIDDEN_DOMAIN) d → percent_decode (clean_text d) ≡ d
decoded d kept =
    ap percent_decode (sym (clean_text_is d))
    ∙ percent_decode-percent_encode ESCAPED d
    (All-weaker (IsKept FORBIDDEN_DOMAIN) IsByte (λ b h. let a = ascii_from_kept FORBIDDEN_DOMAIN b h in omega arith) d kept)
    (All-weaker (IsKept FORBIDDEN_DOMAIN) (EscapesPercent ESCAPED) (λ b h same. absurd (kept_differs FORBIDDEN_DOMAIN 37 refl b h same)) d kept)

-- the clean text of a domain could be the host of a URL of any other scheme
pub clean_host_opaque : (d : List ℕ) → All (IsKept FORBIDDEN_DOMAIN) d → IsOpaqueHost (clean_text d)
clean_host_opaque d kept = (
  All-clean_text (IsKept FORBIDDEN_HOST) (kept_from_escape FORBIDDEN_HOST refl) d (All_kept_by_smaller FORBIDDEN_DOMAIN FORBIDDEN_HOST refl d kept),
  All-clean_text (IsKept CONTROLS) (kept_from_escape CONTROLS refl) d (All_kept_by_smaller FORBIDDEN_DOMAIN CONTROLS refl d kept),
)

no_bracket : (xs : List ℕ) → All (IsNot 91) xs → (get_or xs 0 0 == 91) ≡ false
no_bracket [] h = refl
no_bracket (x ∷ xs) h = ne_eqb x 91 (All-head (IsNot 91) x xs h)

pub clean_host_parses : (d : List ℕ) → IsDomain d → 0 < length d → parse_special_host (clean_text d) ≡ Ok (Domain d)
unfolding parse_special_host
clean_host_parses d is some =
    rw (
      no_bracket (clean_text d) (All_kept_differs FORBIDDEN_HOST 91 refl (clean_text d) (clean_host_opaque d is.allowed).0),
      decoded d is.allowed,
      ascii_domain-kept d is.allowed is.lower,
      is_empty_nonempty d some,
      list_any_none is_forbidden_in_domain d is.allowed,
      is.named,
    )

-- ---- the authority

-- the URL with another host, under a scheme that allows it
abbrev disguise : Parts → List ℕ → Parts
disguise url h = record url { scheme = codes "x"; host = Some (Domain h) }

x_kind : scheme_type (codes "x") ≡ NotSpecial
unfolding scheme_type default_port
x_kind = refl

x_scheme : IsScheme (codes "x")
unfolding scheme_len
x_scheme = record { nonempty = lit< tt; whole = refl; lower = refl }

no_default : default_port (codes "x") ≡ None
unfolding default_port
no_default = refl

port_fits : (scheme : List ℕ) (port : Option ℕ) → IsPortOf scheme port → IsPortOf (codes "x") port
port_fits scheme None valid = tt
port_fits scheme (Some n) valid = (valid.0, λ e. none-some n (sym no_default ∙ e))

cannot : (h : List ℕ) (kind : SchemeType) → is_empty h ≡ false → kind ≡ NotSpecial → (not (not (is_empty h)) || is_file kind) ≡ true → ⊥
cannot h kind some is e = let other : (not (not (is_empty h)) || is_file kind) ≡ false = rw (some, is) refl in true≢false (sym e ∙ other)

disguise_valid : (url : Parts) (h : List ℕ) → IsValidHead url → IsOpaqueHost h → 0 < length h → IsValidHead (disguise url h)
disguise_valid url h valid opaque some = record {
  scheme = x_scheme;
  username = valid.username;
  password = valid.password;
  host = subst (λ k. IsHostOf k (Domain h)) (sym x_kind) opaque;
  port = port_fits url.scheme url.port valid.port;
  bare = λ e. absurd (cannot h (scheme_type (codes "x")) (is_empty_nonempty h some) x_kind e);
}

abbrev digits : Option ℕ → List ℕ
digits port = unwrap_or (option_map decimal port) []

-- the text of the authority with this host
abbrev authority : Parts → List ℕ → List ℕ
authority url h = text_between (disguise url h) BeforeUsername AfterPort

split_host_port : (h : List ℕ) (port : Option ℕ) → IsOpaqueHost h
    → split_port (h ++ (when (is_some port) (58 ∷ []) ++ (digits port ++ []))) ≡ (h, option_map decimal port)
split_host_port h None opaque =
    let len = host_len-host_text NotSpecial (Domain h) [] opaque (inl refl) in
    let short : ltb (length h) (length (h ++ [])) ≡ false = simp length-append (grind (arith, nat_tests)) in
    rw (len, short) (λ i. (take_at h [] _ refl i, None))
split_host_port h (Some n) opaque =
    let rest = decimal n ++ [] in
    let len = host_len-host_text NotSpecial (Domain h) (58 ∷ rest) opaque (inr refl) in
    let long : ltb (length h) (length (h ++ 58 ∷ rest)) ≡ true = simp length-append (grind (arith, nat_tests)) in
    let after = ap (drop (length h + 1)) (sym (append_assoc h (58 ∷ []) rest)) ∙ drop_at (h ++ 58 ∷ []) rest _ (length-append h (58 ∷ [])) ∙ append-nil (decimal n) in
    rw (len, long) (λ i. (take_at h (58 ∷ rest) _ refl i, Some (after i)))

own_port : (scheme : List ℕ) (port : Option ℕ) → IsPortOf scheme port → parse_port scheme (digits port) ≡ Ok port
unfolding parse_port
own_port scheme None valid = refl
own_port scheme (Some n) valid = parse_port-decimal scheme n valid

-- the user name, and the password or none
abbrev both_parts : List ℕ × Option (List ℕ) → List ℕ × List ℕ
both_parts r = (r.0, unwrap_or r.1 [])

own_userinfo : (username password : List ℕ) → All (IsNot 58) username → both_parts (split_once 58 (username ++ (when (not (is_empty password)) (58 ∷ []) ++ password))) ≡ (username, password)
own_userinfo username [] none = ap both_parts (ap (split_once 58) (append-nil username) ∙ split_once_none 58 username none)
own_userinfo username (b ∷ password) none =
    let some = is_empty_nonempty (b ∷ password) (omega arith) in
    ap both_parts (ap (λ t. split_once 58 (username ++ (when (not t) (58 ∷ []) ++ b ∷ password))) some ∙ split_once_at 58 username (b ∷ password) none)

authority_parses : (url : Parts) (d h : List ℕ) → IsValidHead url → url.host ≡ Some (Domain d) → IsOpaqueHost h → 0 < length h
    → parse_host (kind_of url) h ≡ Ok (Domain d) → parse_authority url.scheme (authority url h) ≡ Ok (head_only url)
unfolding parse_authority
authority_parses url d h valid is_host opaque some parses =
    let text = authority url h in
    let at = split_at_sign (disguise url h) (disguise_valid url h valid opaque some) in
    let colon = ap split_port at.after ∙ split_host_port h url.port opaque in
    let user = ap (λ t. both_parts (split_once 58 t)) at.before ∙ own_userinfo url.username url.password (All_kept_differs USERINFO 58 refl url.username valid.username) in
    let has : lacks_host (rsplit_once 64 text).0 h (option_map decimal url.port) ≡ false = and_left _ _ (is_empty_nonempty h some) in
    let head : Host (List ℕ) → Option ℕ → Parsed Parts = λ x p. Ok (with_authority url.scheme (user 0).0 (user 0).1 x p) in
    let made = (λ i. with_authority url.scheme (user i).0 (user i).1 (Domain d) url.port) ∙ own_credentials url url.scheme (Domain d) url.port valid
    ∙ (λ i. head_only (record url { host = sym is_host i })) in
    cond-false _ (Err EmptyHost) _ ((λ i. lacks_host (rsplit_once 64 text).0 (colon i).0 (colon i).1) ∙ has)
    ∙ ap (λ r. and_then r (λ x. and_then (parse_port url.scheme (unwrap_or (colon 0).1 [])) (head x))) (ap (λ c. parse_host (kind_of url) c.0) colon ∙ parses)
    ∙ ap (λ r. and_then r (head (Domain d))) (ap (λ c. parse_port url.scheme (unwrap_or c.1 [])) colon ∙ own_port url.scheme url.port valid.port)
    ∙ ap Ok made

-- ---- what follows the scheme

no_slash_first : (xs ys : List ℕ) → 0 < length xs → All (Passes is_authority_byte) xs → StopsAt (λ b. b == 47 || b == 92) (xs ++ ys)
no_slash_first [] ys nonempty all = absurd (omega arith)
no_slash_first (x ∷ xs) ys nonempty all = let passes = All-head (Passes is_authority_byte) x xs all in grind (arith, nat_tests)

body_parses : (url : Parts) (d h : List ℕ) → IsValid url → kind_of url ≡ SpecialNotFile → url.host ≡ Some (Domain d) → IsOpaqueHost h → 0 < length h
    → parse_special_host h ≡ Ok (Domain d)
    → after_double_slash url.scheme (skip_slashes (47 ∷ 47 ∷ (authority url h ++ url.path))) ≡ Ok (without_tail url)
unfolding after_double_slash
body_parses url d h valid kind is_host opaque some parses =
    let k = kind_of url in
    let text = authority url h in
    let head = disguise_valid url h valid.head opaque some in
    let bytes = authority_bytes (disguise url h) head in
    let long : 0 < length text = simp length-append (omega arith) in
    let slash = λ (b : ℕ). b == 47 || b == 92 in
    let slashes = prefix_len_at slash (47 ∷ 47 ∷ []) (text ++ url.path)
    (All-cons (Passes slash) 47 (47 ∷ []) refl (All-cons (Passes slash) 47 [] refl (All-nil (Passes slash))))
    (no_slash_first text url.path long bytes) in
    let own = special_has_authority url valid.head (ap is_special kind) in
    let path = hierarchical url valid.path (base_from_authority url own) in
    let not_file : is_file k ≡ false = ap is_file kind in
    let test = λ (b : ℕ). not (is_slash k b) in
    let whole = All-weaker (Passes is_authority_byte) (Passes test) (λ b passes. grind (arith, nat_tests)) text bytes in
    let len = prefix_len_at test text url.path whole (stops_at_path k url.path (rooted k url.path path.0)) in
    let front = ap (λ n. take n (text ++ url.path)) len ∙ take_at text url.path _ refl in
    let back = ap (λ n. drop n (text ++ url.path)) len ∙ drop_at text url.path _ refl in
    let authority_is = authority_parses url d h valid.head is_host opaque some (ap (λ x. parse_host x h) kind ∙ parses) in
    ap (λ n. after_double_slash url.scheme (drop n (47 ∷ 47 ∷ (text ++ url.path)))) slashes
    ∙ ap (λ r. and_then r (λ u. Ok (with_path u (parse_path_start k [] (drop (segment_len k (text ++ url.path)) (text ++ url.path)))))) (ap (parse_authority url.scheme) front ∙ authority_is)
    ∙ ap (λ p. Ok (with_path (head_only url) p)) (ap (parse_path_start k []) back ∙ parse_own_path k url.path (stays_unless_file k [] _ not_file) path.0 path.1)

-- ---- the whole text

abbrev IsInk : ℕ → Type 0
IsInk b = 32 < b

none_at_front : (xs : List ℕ) → (0 < length xs → 32 < get_or xs 0 0) → prefix_len is_c0_control_or_space xs ≡ 0
none_at_front [] first = refl
none_at_front (x ∷ xs) first = cond-false _ _ _ (lt-leb x 32 (first (omega arith)))

-- visible bytes are neither trimmed nor stripped
untrimmed : (xs : List ℕ) → All IsInk xs → trim_c0_control_and_space xs ≡ xs
unfolding trim_c0_control_and_space
untrimmed xs ink =
    let len = length-reverse xs in
    let start = none_at_front xs (λ inside. ink 0 0 inside) in
    let end = none_at_front (reverse xs) (λ inside. rw (get_or-reverse xs 0 0 (omega arith), sub-zero) (ink (length xs - 1) 0 (omega arith))) in
    rw (start, end) (take_all _ xs (omega arith))

unstripped : (xs : List ℕ) → All IsInk xs → strip_tabs_and_new_lines xs ≡ xs
unfolding strip_tabs_and_new_lines
unstripped xs ink = filter_all _ xs (All-weaker IsInk (Passes (λ b. not (is_tab_or_new_line b))) (λ b above. grind (arith, nat_tests)) xs ink)

-- the query behind its mark
abbrev query_text : Option (List ℕ) → List ℕ
query_text query = when (is_some query) (63 ∷ []) ++ (unwrap_or query [] ++ [])

split_query : (front : List ℕ) (query : Option (List ℕ)) → All (IsNot 63) front → split_once 63 (front ++ query_text query) ≡ (front, query)
split_query front None none = ap (split_once 63) (append-nil front) ∙ split_once_none 63 front none
split_query front (Some xs) none = split_once_at 63 front (xs ++ []) none ∙ ap (λ l. (front, Some l)) (append-nil xs)

-- the URL's text up to its path, with this host
abbrev front_text : Parts → List ℕ → List ℕ
front_text url h = url.scheme ++ 58 ∷ 47 ∷ 47 ∷ (authority url h ++ url.path)

-- and with its query
abbrev whole_text : Parts → List ℕ → List ℕ
whole_text url h = front_text url h ++ query_text url.query

All-front : (P : ℕ → Type 0) (url : Parts) (h : List ℕ) → IsValid url → IsOpaqueHost h → 0 < length h
    → ((b : ℕ) → Passes is_scheme_byte b → P b) → ((b : ℕ) → Passes is_authority_byte b → P b) → P 58 → P 47 → All P url.path → All P (front_text url h)
All-front P url h valid opaque some scheme authority_byte colon slash path =
    let bytes = authority_bytes (disguise url h) (disguise_valid url h valid.head opaque some) in
    let rest : List ℕ = authority url h ++ url.path in
    let behind : All P rest = All-append P (authority url h) url.path (All-weaker (Passes is_authority_byte) P authority_byte (authority url h) bytes) path in
    let slashes : All P (47 ∷ 47 ∷ rest) = All-cons P 47 (47 ∷ rest) slash (All-cons P 47 rest slash behind) in
    All-append P url.scheme (58 ∷ 47 ∷ 47 ∷ rest) (All-weaker (Passes is_scheme_byte) P scheme url.scheme (scheme_bytes url.scheme valid.head.scheme)) (All-cons P 58 (47 ∷ 47 ∷ rest) colon slashes)

no_hash_in_query : (url : Parts) → IsValid url → All (IsNot 35) (query_text url.query)
no_hash_in_query url valid =
    let part = All_part (IsNot 35) _ url.query (λ b kept e. let passes = query_byte (kind_of url) b kept in grind (arith, nat_tests)) valid.query in
    All-append (IsNot 35) (when (is_some url.query) (63 ∷ [])) _ (All_one (IsNot 35) _ 63 (λ e. omega arith)) (All-append (IsNot 35) (unwrap_or url.query []) [] part (All-nil (IsNot 35)))

-- the URL without its fragment
abbrev bare : Parts → Parts
bare url = record url { fragment = None }

bare_valid : (url : Parts) → IsValid url → IsValid (bare url)
bare_valid url valid = record {
  head = record {
    scheme = valid.head.scheme;
    username = valid.head.username;
    password = valid.head.password;
    host = valid.head.host;
    port = valid.head.port;
    bare = valid.head.bare;
  };
  path = valid.path;
  query = valid.query;
  fragment = tt;
}

whole_parses : (url : Parts) (d h : List ℕ) → IsValid url → kind_of url ≡ SpecialNotFile → url.host ≡ Some (Domain d) → IsOpaqueHost h → 0 < length h
    → parse_special_host h ≡ Ok (Domain d) → All IsInk (whole_text url h) → parse_url None (whole_text url h) ≡ Ok (bare url)
unfolding parse_url parse_parts parse_body
whole_parses url d h valid kind is_host opaque some parses ink =
    let text = whole_text url h in
    let front = front_text url h in
    let body = 47 ∷ 47 ∷ (authority url h ++ url.path) in
    let no_hash = All-front (IsNot 35) url h valid opaque some (λ b passes e. grind (arith, nat_tests)) (λ b passes e. grind (arith, nat_tests))
    (λ e. omega arith) (λ e. omega arith) (All_kept_differs OPAQUE_PATH 35 refl url.path (path_kept url valid.path)) in
    let no_mark = All-front (IsNot 63) url h valid opaque some (λ b passes e. grind (arith, nat_tests)) (λ b passes e. grind (arith, nat_tests))
    (λ e. omega arith) (λ e. omega arith) (All_kept_differs OPAQUE_PATH 63 refl url.path (path_kept url valid.path)) in
    let cleaned = ap strip_tabs_and_new_lines (untrimmed text ink) ∙ unstripped text ink in
    let hash = ap (split_once 35) cleaned ∙ split_once_none 35 text (All-append (IsNot 35) front (query_text url.query) no_hash (no_hash_in_query url valid)) in
    let question = ap (λ r. split_once 63 r.0) hash ∙ split_query front url.query no_mark in
    let scheme = ap (λ r. split_scheme r.0) question ∙ split_own_scheme url.scheme body valid.head.scheme in
    let body_is : parse_body url.scheme None body ≡ Ok (without_tail url) =
    cond-false _ _ _ (ap is_file kind) ∙ (cond-true _ _ _ (ap is_special kind) ∙ body_parses url d h valid kind is_host opaque some parses) in
    (λ i. parse_by_scheme (scheme i) None (question i).0 (question i).1 (hash i).1)
    ∙ ap (λ s. parse_parts s (base_for_scheme None s) body url.query None) valid.head.scheme.lower
    ∙ ap (λ r. and_then r (λ u. Ok (with_tail (before_tail u url.query None) url.query None))) body_is
    ∙ ap (λ (u : Parts). Ok (with_tail u url.query None)) (before_special (without_tail url) url.query None (ap is_special kind))
    ∙ ap Ok (with_own_tail (bare url) (bare_valid url valid))

-- ---- what is written of a URL, in clean bytes

abbrev IsInClean : ℕ → Type 0
IsInClean b = is_clean_byte b ≡ true

stays : (xs : List ℕ) → All IsInClean xs → clean_text xs ≡ xs
stays [] each = refl
stays (b ∷ xs) each = rw (All-head IsInClean b xs each) (ap (λ t. b ∷ t) (stays xs (All-tail IsInClean b xs each)))

clean_between : (a m z : List ℕ) → All IsInClean a → All IsInClean z → clean_text (a ++ (m ++ z)) ≡ a ++ (clean_text m ++ z)
clean_between a m z before behind =
    flat_map-append clean_byte_text a (m ++ z)
    ∙ (λ i. stays a before i ++ flat_map-append clean_byte_text m z i)
    ∙ ap (λ t. a ++ (clean_text m ++ t)) (stays z behind)

abbrev before_host : Parts → List ℕ
before_host url =
    url.scheme ++ (58 ∷ 47 ∷ 47 ∷ (url.username ++ (when (not (is_empty url.password)) (58 ∷ []) ++ (url.password ++ when (has_credentials url) (64 ∷ [])))))

abbrev behind_host : Parts → List ℕ
behind_host url = when (is_some url.port) (58 ∷ []) ++ (digits url.port ++ (url.path ++ query_text url.query))

whole_parts : (url : Parts) (h : List ℕ) → whole_text url h ≡ before_host url ++ (h ++ behind_host url)
whole_parts url h = simp (append_assoc, append-nil)

written_parts : (url : Parts) → has_authority url ≡ true → text_between url BeforeScheme AfterQuery ≡ before_host url ++ (host_text (host_or_empty url) ++ behind_host url)
written_parts url some = rw some (simp (append_assoc, append-nil))

before_clean : (url : Parts) → IsValid url → All IsInClean (before_host url)
before_clean url valid =
    let P = IsInClean in
    let mark : List ℕ = when (has_credentials url) (64 ∷ []) in
    let colon : List ℕ = when (not (is_empty url.password)) (58 ∷ []) in
    let user : List ℕ = url.username ++ (colon ++ (url.password ++ mark)) in
    let password : All P (url.password ++ mark) = All-append P url.password mark (All_kept is_clean_byte USERINFO refl url.password valid.head.password) (All_one P (has_credentials url) 64 refl) in
    let behind : All P (colon ++ (url.password ++ mark)) = All-append P colon (url.password ++ mark) (All_one P (not (is_empty url.password)) 58 refl) password in
    let all : All P user = All-append P url.username (colon ++ (url.password ++ mark)) (All_kept is_clean_byte USERINFO refl url.username valid.head.username) behind in
    let slashes : All P (47 ∷ 47 ∷ user) = All-cons P 47 (47 ∷ user) refl (All-cons P 47 user refl all) in
    All-append P url.scheme (58 ∷ 47 ∷ 47 ∷ user) (All-weaker (Passes is_scheme_byte) P (λ b passes. grind (arith, nat_tests)) url.scheme
    (scheme_bytes url.scheme valid.head.scheme)) (All-cons P 58 (47 ∷ 47 ∷ user) refl slashes)

digits_clean : (scheme : List ℕ) (port : Option ℕ) → IsPortOf scheme port → All IsInClean (digits port)
digits_clean scheme None valid = All-nil IsInClean
digits_clean scheme (Some n) valid = All-weaker (IsInRange 48 57) IsInClean (λ b h. grind (arith, nat_tests)) (decimal n) (All-decimal n (omega (arith, valid.0)))

behind_clean : (url : Parts) → IsValid url → kind_of url ≡ SpecialNotFile → All IsInClean (behind_host url)
behind_clean url valid kind =
    let P = IsInClean in
    let own = special_has_authority url valid.head (ap is_special kind) in
    let path = hierarchical url valid.path (base_from_authority url own) in
    let query = All_part P SPECIAL_QUERY url.query (passes_from_kept SPECIAL_QUERY is_clean_byte refl) (subst (λ k. IfSome url.query (All (IsKept (query_set k)))) kind valid.query) in
    All-append P (when (is_some url.port) (58 ∷ [])) _ (All_one P _ 58 refl)
    (All-append P (digits url.port) _ (digits_clean url.scheme url.port valid.head.port)
    (All-append P url.path _ (All_kept is_clean_byte PATH refl url.path (segment_list_kept _ url.path path.0))
    (All-append P (when (is_some url.query) (63 ∷ [])) _ (All_one P _ 63 refl) (All-append P (unwrap_or url.query []) [] query (All-nil P)))))

-- what is written of the URL is read as the URL without its fragment, once it is clean
abbrev IsReadBack : Parts → Type 0
IsReadBack url = parse_url None (clean_text (text_between url BeforeScheme AfterQuery)) ≡ Ok (bare url)

domain_back : (url : Parts) (d : List ℕ) → IsValid url → kind_of url ≡ SpecialNotFile → url.host ≡ Some (Domain d) → IsDomain d → 0 < length d → IsReadBack url
domain_back url d valid kind is_host domain some =
    let own = special_has_authority url valid.head (ap is_special kind) in
    let host : host_text (host_or_empty url) ≡ d = ap (λ o. host_text (unwrap_or o (Domain []))) is_host in
    let written = ap clean_text (written_parts url own ∙ ap (λ t. before_host url ++ (t ++ behind_host url)) host)
    ∙ clean_between (before_host url) d (behind_host url) (before_clean url valid) (behind_clean url valid kind) ∙ sym (whole_parts url (clean_text d)) in
    let visible : All IsInk (clean_text (text_between url BeforeScheme AfterQuery)) =
    All-weaker IsInClean IsInk (λ b h. grind (arith, nat_tests)) _ (clean_text_clean (text_between url BeforeScheme AfterQuery)) in
    ap (parse_url None) written
    ∙ whole_parses url d (clean_text d) valid kind is_host (clean_host_opaque d domain.allowed) (clean_text_nonempty d some) (clean_host_parses d domain some) (subst (All IsInk) written visible)

clean_back : (url : Parts) → IsValid url → kind_of url ≡ SpecialNotFile → All IsInClean (host_text (host_or_empty url)) → IsReadBack url
clean_back url valid kind clean =
    let own = special_has_authority url valid.head (ap is_special kind) in
    let parts = written_parts url own in
    let each = All-append IsInClean (before_host url) _ (before_clean url valid) (All-append IsInClean (host_text (host_or_empty url)) _ clean (behind_clean url valid kind)) in
    let same = stays (text_between url BeforeScheme AfterQuery) (subst (All IsInClean) (sym parts) each) in
    ap (parse_url None) same ∙ parse_url-serialize_special (bare url) None (bare_valid url valid) kind

host_back : (url : Parts) (host : Host (List ℕ)) → IsValid url → kind_of url ≡ SpecialNotFile → url.host ≡ Some host → IsHostOf SpecialNotFile host → IsReadBack url
host_back url (Domain d) valid kind is_host is = domain_back url d valid kind is_host is.0 is.1
host_back url (Ipv4 address) valid kind is_host is =
    let own : host_text (host_or_empty url) ≡ host_text (Ipv4 address) = ap (λ o. host_text (unwrap_or o (Domain []))) is_host in
    clean_back url valid kind (subst (All IsInClean) (sym own) (All-weaker IsDigitOrDot IsInClean (λ b h. grind (arith, nat_tests)) _ (All-ipv4_text (ipv4_octets address) is.1)))
host_back url (Ipv6 address) valid kind is_host is =
    let own : host_text (host_or_empty url) ≡ host_text (Ipv6 address) = ap (λ o. host_text (unwrap_or o (Domain []))) is_host in
    let groups = All-weaker IsHexOrColon IsInClean (λ b h. grind (arith, nat_tests)) _ (All-hex_groups_text (ipv6_segments address) is.1) in
    clean_back url valid kind (subst (All IsInClean) (sym own)
    (All-cons IsInClean 91 _ refl (All-append IsInClean (hex_groups_text (ipv6_segments address)) (93 ∷ []) groups
    (All-cons IsInClean 93 [] refl (All-nil IsInClean)))))

-- ---- originals

err_is_ok : (original : List ℕ) → Err TooLong ≡ Ok original → ⊥
err_is_ok original e = cc

abbrev read_as : List ℕ → Reading
read_as text = Ok text

same_Ok : (text original : List ℕ) → read_as text ≡ read_as original → text ≡ original
same_Ok text original e = cc

http_kind : (scheme : List ℕ) → is_http_scheme scheme ≡ true → scheme_type scheme ≡ SpecialNotFile
unfolding scheme_type default_port
http_kind scheme http =
    ⊎_elim
    (λ plain. subst (λ s. scheme_type s ≡ SpecialNotFile) (sym ((bytes_eq-Decides scheme (codes "http")).0 plain)) refl)
    (λ other. subst (λ s. scheme_type s ≡ SpecialNotFile) (sym ((bytes_eq-Decides scheme (codes "https")).0 (rw other at http))) refl)
    (cases_Bool (bytes_eq scheme (codes "http")))

limit_kept : (far : Bool) (text original : List ℕ) → (if far then Err TooLong else Ok text) ≡ Ok original → (far ≡ false) × (text ≡ original)
limit_kept true text original e = absurd (err_is_ok original e)
limit_kept false text original e = (refl, same_Ok text original e)

read_again : (text : List ℕ) (url : Parts) → nat_lt 4096 (length text) ≡ false → parse_url None text ≡ Ok url → is_http_scheme url.scheme ≡ true
    → clean_text (text_between url BeforeScheme AfterQuery) ≡ text → original_reading text ≡ Ok text
read_again text url near parsed http same =
    cond-false _ _ _ near ∙ ap original_of_url parsed ∙ cond-true _ _ _ http ∙ ap within_limit same ∙ cond-false _ _ _ near

pub original_kept : (url : Parts) (original : List ℕ) → IsValid url → is_http_scheme url.scheme ≡ true
    → within_limit (clean_text (text_between url BeforeScheme AfterQuery)) ≡ Ok original → original_reading original ≡ Ok original
original_kept url original valid http read =
    let kind = http_kind url.scheme http in
    let own = special_has_authority url valid.head (ap is_special kind) in
    let host = subst (λ k. IsHostOf k (host_or_empty url)) kind (own_host url valid.head own) in
    let kept = limit_kept (nat_lt 4096 (length (clean_text (text_between url BeforeScheme AfterQuery)))) (clean_text (text_between url BeforeScheme AfterQuery)) original read in
    let back = host_back url (host_or_empty url) valid kind (host_is_some url own) host in
    subst (λ (t : List ℕ). original_reading t ≡ Ok t) kept.1 (read_again _ (bare url) kept.0 back http refl)

-- ---- no number sign

no_hash_before : (url : Parts) → IsValid url → All (IsNot 35) (text_between url BeforeScheme AfterQuery)
no_hash_before url valid =
    let body = All-weaker (Passes is_body_byte) (IsNot 35) (λ b passes e. grind (arith, nat_tests)) (text_before url AfterPath) (body_bytes url valid) in
    All-query_text (IsNot 35) url valid body (λ e. omega arith) (λ b passes e. grind (arith, nat_tests))

-- ---- the front

begins_so : (url : Parts) → is_http_scheme url.scheme ≡ true → has_authority url ≡ true
    → begins_on_web (clean_text (text_between url BeforeScheme AfterQuery)) ≡ true
begins_so url http own =
    ⊎_elim
    (λ plain. rw ((bytes_eq-Decides url.scheme (codes "http")).0 plain, own) refl)
    (λ other. rw ((bytes_eq-Decides url.scheme (codes "https")).0 (rw other at http), own) refl)
    (cases_Bool (bytes_eq url.scheme (codes "http")))

-- an original is followed as it stands
pub original_followed : (url : Parts) (original : List ℕ) → IsValid url → is_http_scheme url.scheme ≡ true
    → within_limit (clean_text (text_between url BeforeScheme AfterQuery)) ≡ Ok original → IsFollowed original
original_followed url original valid http read =
    let text = text_between url BeforeScheme AfterQuery in
    let kept = limit_kept (nat_lt 4096 (length (clean_text text))) (clean_text text) original read in
    let own = special_has_authority url valid.head (ap is_special (http_kind url.scheme http)) in
    subst IsFollowed kept.1 (record {
      web = begins_so url http own;
      whole = All-clean_text (IsNot 35) (λ b escape e. grind (arith, nat_tests, escape, e)) text (no_hash_before url valid);
    })
