-- A page of a TimeMap is short enough for those who read pages.
use Rattle.std.proofs.Common.{◌≡◌, ℕ, ◌+◌, ◌-◌, ◌*◌, ◌≤◌, ◌==◌, nat_lt, ◌||◌, not, ◌&&◌, Bool, true, false, List, [], ◌∷◌, ◌++◌}
use Rattle.std.proofs.Common.{length, drop, codes, Option, Some, None, IfSome, subst, ap, ◌∙◌, inl, inr, arith}
use Rattle.std.specs.Prelude.{All, slice_get}
use Rattle.std.proofs.lemmas.Bool.{cases_Bool}
use Rattle.std.proofs.lemmas.Option.{slice_get_cases}
use Rattle.std.proofs.lemmas.List.{length-append, length-take}
use Rattle.std.proofs.lemmas.List.Concat.{flat_map-append}
use Rattle.std.proofs.lemmas.List.Elements.{All-head, All-tail}
use Rattle.memento_time.specs.declared.mementos.Memento.{Memento}
use Rattle.memento_time.specs.Mementos.{IsMemento}
use Rattle.memento_time.specs.Second.{IsSecond, imf}
use Rattle.memento_time.proofs.ReadLemmas.{Reads-imf}
use Rattle.link_format.specs.Grammar.{Param, Link}
use Rattle.link_format.specs.Writing.{param_text, params_text, link_text, escape, links_each_behind}
use Rattle.timemap_reader.specs.Answer.{IsShort}
use Rattle.timemap_writer.specs.TimeMap as written
use Rattle.timemap_writer.specs.TimeMap.{memento_link, memento_links, memento_relations, original_link, timegate_link, timemap_link, period}
use Rattle.timemap_writer.specs.Pages.{stretch, stretch_links, page_address, page_text}
use Rattle.timemap_writer.proofs.Readings.{All-stretch}
use Rattle.timemap_writer.proofs.Stretches.{lines_taken}

-- ---- parameters

escape_short : (value : List ℕ) → length (escape value) ≤ length value + length value
escape_short [] = omega arith
escape_short (b ∷ value) =
    let more = escape_short value in
    elim (cases_Bool (b == 34 || b == 92)) [
      | inl special ↦ rw special (omega (arith, more))
      | inr other ↦ rw other (omega (arith, more))
    ]

param_short : (name value : List ℕ) → length (param_text name (Some value)) ≤ 5 + length name + (length value + length value)
param_short name value =
    let whole : length (param_text name (Some value)) ≡ 5 + length name + length (escape value) = rw (length-append, length-append) (omega arith) in
    omega (arith, whole, escape_short value)

date_short : (name : List ℕ) (m : Memento) → length name ≤ 8 → IsSecond m.at → length (param_text name (Some (imf m.at))) ≤ 71
date_short name m short is = omega (arith, param_short name (imf m.at), short, (Reads-imf m.at is).len)

relations_short : (first last : Bool) → length (memento_relations first last) ≤ 18
relations_short true true = omega arith
relations_short true false = omega arith
relations_short false true = omega arith
relations_short false false = omega arith

one_short : (name : List ℕ) (o : Option Memento) → length name ≤ 8 → IfSome o (λ m. IsSecond m.at) → length (params_text (written.datetime_of name o)) ≤ 71
one_short name None short is = omega arith
one_short name (Some m) short is =
    let alone : length (params_text (written.datetime_of name (Some m))) ≡ length (param_text name (Some (imf m.at))) = rw (length-append) (omega arith) in
    omega (arith, alone, date_short name m short is)

second_at : (ms : List Memento) (k : ℕ) → All IsMemento ms → IfSome (slice_get ms k) (λ m. IsSecond m.at)
second_at ms k each =
    elim ((slice_get_cases ms k).1) [
      | inl there ↦ rw there.2 (subst IsMemento there.3 (each k there.0 there.1)).at
      | inr past ↦ rw past.1 tt
    ]

period_short : (ms : List Memento) → All IsMemento ms → length (params_text (period ms)) ≤ 142
period_short ms each =
    let from = written.datetime_of (codes "from") (slice_get ms 0) in
    let until = written.datetime_of (codes "until") (slice_get ms (length ms - 1)) in
    let parts : length (params_text (period ms)) ≡ length (params_text from) + length (params_text until) =
    ap length (flat_map-append (λ (p : Param). param_text p.name p.value) from until) ∙ length-append (params_text from) (params_text until) in
    let first = one_short (codes "from") (slice_get ms 0) (omega arith) (second_at ms 0 each) in
    let last = one_short (codes "until") (slice_get ms (length ms - 1)) (omega arith) (second_at ms (length ms - 1) each) in
    omega (arith, parts, first, last)

-- ---- links

link_length : (l : Link) → length (link_text l) ≡ 2 + length l.target + length (params_text l.params)
link_length l = rw (length-append, length-append) (omega arith)

line_short : (first last : Bool) (m : Memento) → IsMemento m → length (link_text (memento_link first last m)) ≤ 8309
line_short first last m is =
    let relations = param_text (codes "rel") (Some (memento_relations first last)) in
    let date = param_text (codes "datetime") (Some (imf m.at)) in
    let params : length (params_text (memento_link first last m).params) ≡ length relations + length date = simp length-append (omega arith) in
    omega (
      arith,
      link_length (memento_link first last m),
      params,
      param_short (codes "rel") (memento_relations first last),
      relations_short first last,
      date_short (codes "datetime") m (omega arith) is.at,
      is.uri.0.1,
    )

lines_short : (first more : Bool) (ms : List Memento) → All IsMemento ms → length (links_each_behind (codes ",\n") (stretch_links first more ms)) ≤ 8311 * length ms
lines_short first more [] each = omega arith
lines_short first more (m ∷ ms) each =
    let last = not more && (length ms == 0) in
    let line = codes ",\n" ++ link_text (memento_link first last m) in
    let rest = links_each_behind (codes ",\n") (stretch_links false more ms) in
    let front : length line ≡ 2 + length (link_text (memento_link first last m)) = length-append (codes ",\n") (link_text (memento_link first last m)) in
    let one = line_short first last m (All-head IsMemento m ms each) in
    let others = lines_short false more ms (All-tail IsMemento m ms each) in
    rw (length-append line rest) (omega (arith, front, one, others))

-- ---- a page

original_short : (original : List ℕ) → length original ≤ 4096 → length (link_text (original_link original)) ≤ 4122
original_short original short =
    let params : length (params_text (original_link original).params) ≡ length (param_text (codes "rel") (Some (codes "original"))) = rw (length-append) (omega arith) in
    omega (arith, link_length (original_link original), params, param_short (codes "rel") (codes "original"), short)

gate_short : (base original : List ℕ) → length (written.timegate_address base original) ≤ 8192 → length (link_text (timegate_link base original)) ≤ 8218
gate_short base original short =
    let params : length (params_text (timegate_link base original).params) ≡ length (param_text (codes "rel") (Some (codes "timegate"))) = rw (length-append) (omega arith) in
    omega (arith, link_length (timegate_link base original), params, param_short (codes "rel") (codes "timegate"), short)

self_short : (address : List ℕ) (ms : List Memento) → length address ≤ 8192 → All IsMemento ms → length (link_text (timemap_link (codes "self") address ms)) ≤ 8407
self_short address ms short each =
    let relation = param_text (codes "rel") (Some (codes "self")) in
    let kind = param_text (codes "type") (Some (codes "application/link-format")) in
    let params : length (params_text (timemap_link (codes "self") address ms).params)
    ≡ length relation + length kind + length (params_text (period ms)) = rw (length-append, length-append) (omega arith) in
    omega (
      arith,
      link_length (timemap_link (codes "self") address ms),
      params,
      param_short (codes "rel") (codes "self"),
      param_short (codes "type") (codes "application/link-format"),
      period_short ms each,
      short,
    )

lengths : (original gate self lines : List ℕ)
    → length ((original ++ ((codes ",\n" ++ gate) ++ ((codes ",\n" ++ self) ++ lines))) ++ codes "\n") ≡ length original + length gate + length self + length lines + 5
lengths original gate self lines = simp length-append (omega arith)

-- a page has at most 1,000 mementos
pub page_is_short : (base original : List ℕ) (ms : List Memento) (page : ℕ) → length original ≤ 4096 → length (written.timegate_address base original) ≤ 8192
    → length (page_address base original page) ≤ 8192 → All IsMemento ms → IsShort (page_text base original ms page)
unfolding page_text
page_is_short base original ms page known gate self each =
    let here = stretch page ms in
    let here_each = All-stretch IsMemento page ms each in
    let few : length here ≤ 1000 = omega (arith, length-take 1000 (drop (1000 * (page - 1)) ms)) in
    let lines : length (links_each_behind (codes ",\n") (stretch page (memento_links true ms))) ≤ 8311 * length here =
    subst (λ (links : List Link). length (links_each_behind (codes ",\n") links) ≤ 8311 * length here) (lines_taken page ms)
    (lines_short (1000 * (page - 1) == 0) (nat_lt 1000 (length (drop (1000 * (page - 1)) ms))) here here_each) in
    let whole = lengths (link_text (original_link original)) (link_text (timegate_link base original)) (link_text (timemap_link (codes "self") (page_address base original page) here))
    (links_each_behind (codes ",\n") (stretch page (memento_links true ms))) in
    omega (arith, whole, original_short original known, gate_short base original gate, self_short (page_address base original page) here self here_each, lines, few)
