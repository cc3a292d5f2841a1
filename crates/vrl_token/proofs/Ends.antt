-- Texts that end with others.
use Rattle.std.proofs.Common.{◌≡◌, ℕ, ◌<◌, ◌≤◌, List, [], ◌∷◌, ◌++◌, length, refl, sym, ap, ◌∙◌, append_assoc, length-append, arith}

-- the text is a front and a rest
pub record EndsWith (text rest : List ℕ) : Type 0 where
  pub front : List ℕ
  pub parts : text ≡ front ++ rest

-- the same, where the front has a byte
pub record Takes (text rest : List ℕ) : Type 0 where
  pub front : List ℕ
  pub parts : text ≡ front ++ rest
  pub some : 0 < length front

pub is_end : {text rest : List ℕ} → Takes text rest → EndsWith text rest
is_end takes = record { front = takes.front; parts = takes.parts }

pub same_end : {text rest : List ℕ} → text ≡ rest → EndsWith text rest
same_end same = record { front = []; parts = same }

pub front_of : (front rest : List ℕ) → EndsWith (front ++ rest) rest
front_of front rest = record { front = front; parts = refl }

pub is_no_longer : {text rest : List ℕ} → EndsWith text rest → length rest ≤ length text
is_no_longer {text} {rest} ends = rw (ends.parts, length-append ends.front rest) (omega arith)

pub is_shorter : {text rest : List ℕ} → Takes text rest → length rest < length text
is_shorter {text} {rest} takes = rw (takes.parts, length-append takes.front rest) (let some = takes.some in omega arith)

joined : {text next : List ℕ} (front middle rest : List ℕ) → text ≡ front ++ next → next ≡ middle ++ rest → text ≡ (front ++ middle) ++ rest
joined {text} {next} front middle rest one two = one ∙ ap (λ t. front ++ t) two ∙ sym (append_assoc front middle rest)

pub ends_on : {text next rest : List ℕ} → EndsWith text next → EndsWith next rest → EndsWith text rest
ends_on {text} {next} {rest} one two = record { front = one.front ++ two.front; parts = joined one.front two.front rest one.parts two.parts }

pub takes_on : {text next rest : List ℕ} → Takes text next → EndsWith next rest → Takes text rest
takes_on {text} {next} {rest} one two =
    record { front = one.front ++ two.front; parts = joined one.front two.front rest one.parts two.parts; some = rw (length-append one.front two.front) (let some = one.some in omega arith) }

pub goes_to : {text next rest : List ℕ} → EndsWith text next → Takes next rest → Takes text rest
goes_to {text} {next} {rest} one two =
    record { front = one.front ++ two.front; parts = joined one.front two.front rest one.parts two.parts; some = rw (length-append one.front two.front) (let some = two.some in omega arith) }

pub one_byte : {text rest : List ℕ} (b : ℕ) → text ≡ b ∷ rest → Takes text rest
one_byte b is = record { front = b ∷ []; parts = is; some = omega arith }

pub first_byte : (b : ℕ) (rest : List ℕ) → Takes (b ∷ rest) rest
first_byte b rest = one_byte b refl

pub two_bytes : {text rest : List ℕ} (b c : ℕ) → text ≡ b ∷ c ∷ rest → Takes text rest
two_bytes b c is = record { front = b ∷ c ∷ []; parts = is; some = omega arith }
