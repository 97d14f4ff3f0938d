-- Usual parameters, read as the grammar reads them.
use Rattle.std.proofs.Common.{◌≡◌, false, ℕ, ◌+◌, ◌≤◌, List, [], ◌∷◌, ◌++◌, length, Option, Some, None, refl, ap, ◌∙◌, codes, inl, inr, arith}
use Rattle.std.specs.Prelude.{option_map}
use Rattle.std.proofs.lemmas.Bool.{cases_Bool}
use Rattle.std.proofs.lemmas.Option.{same_Some}
use Rattle.link_format.specs.Bytes.{is_blank, is_plain, is_token_byte}
use Rattle.link_format.specs.Grammar.{Param}
use Rattle.link_format.specs.Scan.{front, past, after_byte, value_at, tail_at, param_at, behind_params, params_of}
use Rattle.link_format.specs.Usual.{usual_params, FollowsRelation, FollowsSemicolon}
use Rattle.link_format.specs.Walk.{behind_link, left_by}
use Rattle.link_format.proofs.Complete.{StopsAt, front_stops, past_stops, other_byte}
use Rattle.link_format.proofs.Quoted.{plain_until_quote}
use Rattle.link_format.proofs.Steps.{behind_some, params_some, shrinks}
use Rattle.link_format.proofs.Walks.{left_as, param_walks}

-- what is said of a text that begins with usual parameters
pub record IsUsual (text datetime rest : List ℕ) : Type 0 where
  pub params : params_of text ≡ usual_params datetime ++ params_of rest
  pub behind : behind_params text ≡ behind_params rest
  pub left : left_by behind_link text ≡ left_by behind_link rest
  pub shorter : 2 + length rest ≤ length text

abbrev relation : Param
relation = record { name = codes "rel"; value = Some (codes "memento") }

abbrev date : List ℕ → Param
date datetime = record { name = codes "datetime"; value = Some datetime }

-- a token ends where blanks and a semicolon follow
stops_token : (text more : List ℕ) → after_byte 59 (past is_blank text) ≡ Some more → StopsAt is_token_byte text
stops_token [] more h = tt
stops_token (b ∷ text) more h =
    elim (cases_Bool (is_token_byte b)) [
      | inl is ↦
          let no = λ (c : ℕ) (not_token : is_token_byte c ≡ false). other_byte is_token_byte b c is not_token in
          absurd (let k : None ≡ Some more = rw (no 32 refl, no 9 refl, no 13 refl, no 10 refl, no 59 refl) at h in cc)
      | inr not_token ↦ not_token
    ]

relation_at : (text rest more : List ℕ) → FollowsRelation text rest → after_byte 59 (past is_blank rest) ≡ Some more
    → param_at text ≡ Some (relation ∷ [], rest)
unfolding param_at tail_at value_at
relation_at text rest more (inl quoted) h = rw quoted refl
relation_at text rest more (inr token) h =
    let stops = stops_token rest more h in
    rw (token, front_stops is_token_byte rest stops, past_stops is_token_byte rest stops) refl

date_at : (text more rest : List ℕ) → text ≡ codes "datetime=\"" ++ more → after_byte 34 (past is_plain more) ≡ Some rest
    → param_at text ≡ Some (date (front is_plain more) ∷ [], rest)
unfolding param_at tail_at value_at
date_at text more rest is h = let k = plain_until_quote more rest h in rw (is, k.0, k.1) refl

-- two parameters at the front
two_params : (text first behind second rest : List ℕ) (p q : Param)
    → after_byte 59 (past is_blank text) ≡ Some first → param_at (past is_blank first) ≡ Some (p ∷ [], behind)
    → after_byte 59 (past is_blank behind) ≡ Some second → param_at (past is_blank second) ≡ Some (q ∷ [], rest)
    → (params_of text ≡ p ∷ q ∷ params_of rest) × (behind_params text ≡ behind_params rest)
    × (left_by behind_link text ≡ left_by behind_link rest) × (2 + length rest ≤ length text)
two_params text first behind second rest p q a b c d =
    let less = shrinks text first (p ∷ [], behind) a b in
    let least = shrinks behind second (q ∷ [], rest) c d in (
      params_some text first (p ∷ [], behind) a b ∙ ap (λ (ps : List Param). p ∷ ps) (params_some behind second (q ∷ [], rest) c d),
      behind_some text first (p ∷ [], behind) a b ∙ behind_some behind second (q ∷ [], rest) c d,
      left_as behind_link behind_link text behind (param_walks text first (p ∷ [], behind) a b)
          ∙ left_as behind_link behind_link behind rest (param_walks behind second (q ∷ [], rest) c d),
      omega (arith, less, least),
    )

-- the semicolon that stands before what follows it and its blanks
semicolon_is : (o : Option (List ℕ)) (rest : List ℕ) → option_map (past is_blank) o ≡ Some rest
    → (more : List ℕ) × (o ≡ Some more) × (past is_blank more ≡ rest)
semicolon_is None rest h = absurd cc
semicolon_is (Some more) rest h = (more, refl, same_Some _ _ h)

pub usual : (text first behind second more rest : List ℕ) → FollowsSemicolon text first → FollowsRelation first behind
    → FollowsSemicolon behind second → second ≡ codes "datetime=\"" ++ more → after_byte 34 (past is_plain more) ≡ Some rest → IsUsual text (front is_plain more) rest
usual text first behind second more rest a r b d quote =
    let x = semicolon_is (after_byte 59 (past is_blank text)) first a in
    let y = semicolon_is (after_byte 59 (past is_blank behind)) second b in
    let one = ap param_at x.2 ∙ relation_at first behind y.0 r y.1 in
    let two = ap param_at y.2 ∙ date_at second more rest d quote in
    let all = two_params text x.0 behind y.0 rest relation (date (front is_plain more)) x.1 one y.1 two in
    record { params = all.0; behind = all.1; left = all.2; shorter = all.3 }
