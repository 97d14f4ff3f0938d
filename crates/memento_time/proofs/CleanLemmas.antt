-- Clean texts: the test of their bytes, their text, and what stands before a fragment.
use Rattle.std.proofs.Common.{◌≡◌, ◌==◌, ℕ, ◌<◌, true, nat_lt, List, [], ◌∷◌, length, All, refl, ⊎_elim, arith}
use Rattle.std.specs.List.{list_all, position_or_len}
use Rattle.std.specs.Str.{IsUtf8}
use Rattle.std.proofs.lemmas.Bool.{cases_Bool, and_parts}
use Rattle.std.proofs.lemmas.Bool.Decides.{nat_tests}
use Rattle.std.proofs.lemmas.List.{length-take, get_or_past}
use Rattle.std.proofs.lemmas.List.Elements.{All-take, All-head, All-tail, All-cons, All-nil}
use Rattle.std.proofs.lemmas.Str.{IsUtf8-from_ascii}
use Rattle.memento_time.specs.Text.{IsClean, IsCleanByte, is_clean_byte, before_fragment}

pub clean_byte : (b : ℕ) → is_clean_byte b ≡ true → IsCleanByte b
clean_byte b h = ((grind (arith, nat_tests, h), grind (arith, nat_tests, h)), (λ e. grind (arith, nat_tests, h, e)), (λ e. grind (arith, nat_tests, h, e)), λ e. grind (arith, nat_tests, h, e))

pub is_clean_byte-true : (b : ℕ) → IsCleanByte b → is_clean_byte b ≡ true
is_clean_byte-true b h = grind (arith, nat_tests, h)

pub clean_bytes : (text : List ℕ) → list_all is_clean_byte text ≡ true → All IsCleanByte text
clean_bytes [] h = All-nil IsCleanByte
clean_bytes (b ∷ text) h =
    let parts = and_parts (is_clean_byte b) (list_all is_clean_byte text) h in
    All-cons IsCleanByte b text (clean_byte b parts.0) (clean_bytes text parts.1)

pub are_clean : (text : List ℕ) → All IsCleanByte text → list_all is_clean_byte text ≡ true
are_clean [] h = refl
are_clean (b ∷ text) h =
    rw (is_clean_byte-true b (All-head IsCleanByte b text h), are_clean text (All-tail IsCleanByte b text h))

-- a clean text is ASCII
pub clean_utf8 : (text : List ℕ) → IsClean text → IsUtf8 text
clean_utf8 text clean = IsUtf8-from_ascii text (λ i.
    ⊎_elim
    (λ inside. let b = clean.1 i 0 (grind (arith, nat_tests, inside)) in omega (arith, b.0.0, b.0.1))
    (λ outside. let p = get_or_past text i 0 (grind (arith, nat_tests, outside)) in omega (arith, p))
    (cases_Bool (nat_lt i (length text))))

pub clean_front : (text : List ℕ) → IsClean text → 0 < length (before_fragment text) → IsClean (before_fragment text)
clean_front text clean some = (
  (omega (arith, some), omega (arith, clean.0.1, length-take (position_or_len (λ b. b == 0x23) text) text)),
  All-take IsCleanByte (position_or_len (λ b. b == 0x23) text) text clean.1,
)
