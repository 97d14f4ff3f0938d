-- What a wish for something that is shown comes to, by whether it is due.
use Rattle.std.proofs.Common.{◌≡◌, ℕ, Bool, true, false, not, List, refl, ap, ◌∙◌}
use Rattle.std.specs.Prelude.{◌==◌, ◌&&◌, if◌then◌else◌}
use Rattle.original_sets.specs.Sets as set
use Rattle.wish_list.specs.Allowance.{left_at}
use Rattle.wish_list.specs.Queue.{stands}
use Rattle.wish_list.specs.Tables.{second_of}
use Rattle.wish_list.specs.Wishing.{decision, due_decision, has_room, is_due, is_fresh, is_settled}
use Rattle.wish_list.specs.declared.wishes.Wishes.{Wishes}
use Rattle.wish_list.specs.declared.wishes.Decision.{Decision}
use Rattle.wish_list.specs.declared.wishes.Decision.TheVariants.{Added, Waits, Fresh, Full, Late, Listed}

abbrev of_tests : Bool → Bool → Bool → Bool → Decision
of_tests listed waits full late = if true && listed then Listed else if waits then Waits else if full then Full else if late then Late else Added

settled_of : (listed waits full late : Bool) → is_settled (of_tests listed waits full late) ≡ listed
settled_of true waits full late = refl
settled_of false true full late = refl
settled_of false false true late = refl
settled_of false false false true = refl
settled_of false false false false = refl

fresh_of : (listed waits full late : Bool) → is_fresh (of_tests listed waits full late) ≡ false
fresh_of true waits full late = refl
fresh_of false true full late = refl
fresh_of false false true late = refl
fresh_of false false false true = refl
fresh_of false false false false = refl

pub settled_if_due : (w : Wishes) (text : List ℕ) (now : ℕ) → is_due (second_of w.shown text) w.again now ≡ true → is_settled (decision w text true now) ≡ set.stands w.listed text
settled_if_due w text now due = ap (λ (b : Bool). is_settled (if b then due_decision w text true now else Fresh)) due
    ∙ settled_of (set.stands w.listed text) (stands w.queue text) (not (has_room w true)) (left_at w.allowance now == 0)

pub asked_if_due : (w : Wishes) (text : List ℕ) (now : ℕ) → is_due (second_of w.shown text) w.again now ≡ true → is_fresh (decision w text true now) ≡ false
asked_if_due w text now due = ap (λ (b : Bool). is_fresh (if b then due_decision w text true now else Fresh)) due
    ∙ fresh_of (set.stands w.listed text) (stands w.queue text) (not (has_room w true)) (left_at w.allowance now == 0)

pub settled_if_young : (w : Wishes) (text : List ℕ) (now : ℕ) → is_due (second_of w.shown text) w.again now ≡ false → is_settled (decision w text true now) ≡ true
settled_if_young w text now young = ap (λ (b : Bool). is_settled (if b then due_decision w text true now else Fresh)) young

pub asked_if_young : (w : Wishes) (text : List ℕ) (now : ℕ) → is_due (second_of w.shown text) w.again now ≡ false → is_fresh (decision w text true now) ≡ true
asked_if_young w text now young = ap (λ (b : Bool). is_fresh (if b then due_decision w text true now else Fresh)) young
