use Rattle.std.proofs.Common.{◌≡◌, [], List, ℕ, Vec, String, Global, map, string_bytes, refl, ap}
use Rattle.toml.specs.View.{table_view}
use Rattle.service_settings.specs.declared.unknown.Place.TheVariants.{Top}
use Rattle.service_settings.specs.declared.unknown.Told.{Told}
use Rattle.service_settings.specs.Told.{IsTold}
use Rattle.service_settings.specs.Unknown.{all_lines, table_lines, told_lines}
use Rattle.service_settings.proofs.ToldLemmas.{ok_gives}
use Rattle.service_settings.proofs.unknown.lines_about.Goals as goal

pub returns : goal.returns
returns c =
    let members = table_view c.args.table.now in
    let none : Told = record { lines = c.new.result; count = 0 } in
    let start : IsTold none [] = record { lines = ap (map (λ line. string_bytes line)) c.new.ensures.items; count = refl } in
    let top = c.in_ok-add_table.ensures [] start in
    let all = c.in_ok-add_listed.ensures (table_lines Top members) top in
    ok_gives (λ (lines : Vec (String Global) Global). (all : List (List ℕ)) → IsTold c.add_listed.new.self all → map (λ line. string_bytes line) lines.items ≡ told_lines all)
    (λ (lines : Vec (String Global) Global). map (λ line. string_bytes line) lines.items ≡ told_lines (all_lines members))
    c.lines.result (λ lines gives. gives (all_lines members) all) c.lines.ensures
