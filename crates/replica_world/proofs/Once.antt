-- A script has one output: each command writes one text, and leads to one world.
use Rattle.std.proofs.Common.{◌≡◌, ℕ, ◌⊎◌, List, [], ◌∷◌, ◌++◌, Option, Some, None, Ok, inl, inr, refl, sym, ap, ◌∙◌, append_assoc, append-nil, arith, subst}
use Rattle.std.specs.Prelude.{MatchOption}
use Rattle.timemap_reader.specs.Answer.{IsAnswer}
use Rattle.timemap_reader.specs.declared.page.Page.{Page}
use Rattle.replica_events.specs.declared.event.Event.{Event}
use Rattle.replica_events.specs.declared.event.Event.TheVariants.{Take}
use Rattle.replica_events.specs.World.{World, start}
use Rattle.replica_events.proofs.Outcomes.{Once, either_once, match_once, named_once, effect_once}
use Rattle.replica_world.specs.Fields.{utf8_text}
use Rattle.replica_world.specs.Script as script
use Rattle.replica_world.specs.Script.{Command, Taking, Start}
use Rattle.replica_world.specs.Output.{Happens, IsPage, TakesHarvest, Performs, Says, Writes, IsOutput, answer_text, taken_line, harvest_of}

-- a base and a body have at most one page
abbrev pub OnePage : Type 0
OnePage = (base body : List ℕ) (page other : Page) → IsAnswer base body (Ok page) → IsAnswer base body (Ok other) → page ≡ other

-- ---- commands

-- so it writes one text
happens_once : (base : List ℕ) (w : World) (accepted : List ℕ) (event : Event) → Once (Happens base w accepted event)
happens_once base w accepted event a n b m (x, p, p_is) (y, q, q_is) =
    let once = effect_once base w event x n y m p q in
    (p_is ∙ ap (answer_text accepted) once.0 ∙ sym q_is, once.1)

-- a page of mementos is refused in one way, or taken
takes_harvest_once : (base : List ℕ) (w : World) (t : Taking) (original : List ℕ) (page : Page) → Once (TakesHarvest base w t original page)
takes_harvest_once base w t original page =
    either_once _ _ _ _ (λ no yes. no yes) (named_once _ _)
    (either_once _ _ _ _ (λ many few. omega (arith, few, many)) (named_once _ _) (happens_once base w (taken_line page) (Take t.replica (harvest_of t original page))))

-- also at an address that need not be UTF-8
pub one_page_is : OnePage → (address body : List ℕ) (p q : Page) → IsPage address body p → IsPage address body q → p ≡ q
one_page_is one address body p q = both (utf8_text address) where
  both : (o : Option (List ℕ)) → MatchOption o ⊥ (λ base. IsAnswer base body (Ok p)) → MatchOption o ⊥ (λ base. IsAnswer base body (Ok q)) → p ≡ q
  both None x y = absurd x
  both (Some base) x y = one base body p q x y

-- bytes are one page, or none
page_once : OnePage → (address body : List ℕ) (F : Page → List ℕ → World → Type 0) (G : List ℕ → World → Type 0) → ((page : Page) → Once (F page)) → Once G
    → Once (λ a n. (((page : Page) → ¬ (IsPage address body page)) × G a n) ⊎ ((page : Page) × IsPage address body page × F page a n))
page_once one address body F G f g a n b m (inl (none, x)) (inl (same, y)) = g a n b m x y
page_once one address body F G f g a n b m (inl (none, x)) (inr (page, is, y)) = absurd (none page is)
page_once one address body F G f g a n b m (inr (page, is, x)) (inl (none, y)) = absurd (none page is)
page_once one address body F G f g a n b m (inr (page, is, x)) (inr (other, also, y)) =
    f other a n b m (subst (λ (p : Page). F p a n) (one_page_is one address body page other is also) x) y

-- so each command writes one text
pub performs_once : OnePage → (base : List ℕ) (w : World) (command : Command) → Once (Performs base w command)
performs_once one base w (script.Take t) =
    match_once _ _ _ (named_once _ _) (λ original. page_once one t.address t.body _ _ (λ page. takes_harvest_once base w t original page) (named_once _ _))
performs_once one base w (script.Step event) = happens_once base w _ event

-- and so do commands in turn
pub says_once : OnePage → (base : List ℕ) (w : World) (commands : List Command) → Once (Says base w commands)
says_once one base w [] a n b m p q = named_once [] w a n b m p q
says_once one base w (command ∷ commands) a n b m (x, u, xs, p, ps, a_is) (y, v, ys, q, qs, b_is) =
    let first = performs_once one base w command x u y v p q in
    let later = says_once one base v commands xs n ys m (subst (λ (w : World). Says base w commands xs n) first.1 ps) qs in
    (a_is ∙ ap (λ (t : List ℕ). t ++ xs) first.0 ∙ ap (λ (t : List ℕ). y ++ t) later.0 ∙ sym b_is, later.1)

-- from a new world too
writes_once : OnePage → (begin : Option Start) (commands : List Command) (a b : List ℕ) → Writes begin commands a → Writes begin commands b → a ≡ b
writes_once one None commands a b p q = p ∙ sym q
writes_once one (Some s) commands a b (n, p) (m, q) = (says_once one s.base (start s.replicas) commands a n b m p q).0

-- so a script has one output
pub output_once : OnePage → (text output other : List ℕ) → IsOutput text output → IsOutput text other → output ≡ other
output_once one text output other p q = writes_once one (script.script_of text).start (script.script_of text).commands.list output other p q

-- ---- commands one after the other

-- what commands write is what the first of them write, and then the others
pub says_split : (base : List ℕ) (w : World) (before after : List Command) (text : List ℕ) (end : World) → Says base w (before ++ after) text end
    → (said : List ℕ) × (mid : World) × (more : List ℕ) × Says base w before said mid × Says base mid after more end × (text ≡ said ++ more)
says_split base w [] after text end says = ([], w, text, (refl, refl), says, refl)
says_split base w (command ∷ before) after text end (first, next, later, performs, says, text_is) =
    let rest = says_split base next before after later end says in
    (first ++ rest.0, rest.1, rest.2, (first, next, rest.0, performs, rest.3, refl), rest.4, text_is ∙ ap (λ (t : List ℕ). first ++ t) rest.5 ∙ sym (append_assoc first rest.0 rest.2))

-- commands, and one more
pub says_push : (base : List ℕ) (w : World) (before : List Command) (said : List ℕ) (mid : World) (command : Command) (text : List ℕ) (next : World)
    → Says base w before said mid → Performs base mid command text next → Says base w (before ++ command ∷ []) (said ++ text) next
says_push base w [] said mid command text next (said_is, mid_is) performs =
    (text, next, [], subst (λ (w : World). Performs base w command text next) mid_is performs, (refl, refl), ap (λ (t : List ℕ). t ++ text) said_is ∙ sym (append-nil text))
says_push base w (one ∷ before) said mid command text next (first, then, later, one_performs, says, said_is) performs =
    (first, then, later ++ text, one_performs, says_push base then before later mid command text next says performs, ap (λ (t : List ℕ). t ++ text) said_is ∙ append_assoc first later text)
