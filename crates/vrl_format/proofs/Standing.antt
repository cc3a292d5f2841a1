-- What stands between the last token of a text and a place behind it.
use Rattle.std.proofs.Common.{◌≡◌, ◌≢◌, refl, sym, ap, ◌∙◌, subst, ℕ, ◌+◌, ◌-◌, ◌<◌, Bool, true, false, List, [], ◌∷◌, ◌++◌, length, get_or, take, drop, inl, inr, append_assoc, length-append, arith, if◌then◌else◌}
use Rattle.std.specs.List.{AllByRecursion}
use Rattle.std.proofs.lemmas.Bool.{ne_eqb}
use Rattle.std.proofs.lemmas.Bool.Decides.{eqb_tells}
use Rattle.std.proofs.lemmas.List.{append-nil, append_cancel_right}
use Rattle.std.proofs.Math.Seq.{drop-append_seam, get_or-append_seam, take-append_seam}
use Rattle.vrl_token.specs.Lexical.{BeginsOutside, IsBlank}
use Rattle.vrl_token.specs.Pieces.{IsGap, IsRemark}
use Rattle.vrl_token.specs.Division.{span_between}
use Rattle.vrl_token.specs.Respelling.{EndsLine}
use Rattle.vrl_format.specs.Pieces.{Remark, line_end, remark, outside, inside, bytes_between, remarks_from, remarks_in, spelling_at}

-- ---- bytes

blank_byte : (b : ℕ) (x : List ℕ) → IsBlank b → remarks_from outside (b ∷ x) ≡ remarks_from outside x
blank_byte b x (inl space) = ap (λ c. remarks_from outside (c ∷ x)) space
blank_byte b x (inr (inl tab)) = ap (λ c. remarks_from outside (c ∷ x)) tab
blank_byte b x (inr (inr return)) = ap (λ c. remarks_from outside (c ∷ x)) return

-- blanks are passed over
over_blanks : (bs x : List ℕ) → AllByRecursion IsBlank bs
    → remarks_from outside (bs ++ x) ≡ remarks_from outside x
over_blanks [] x all = refl
over_blanks (b ∷ bs) x all = blank_byte b (bs ++ x) all.0 ∙ over_blanks bs x all.1

inside_byte : (read : List ℕ) (b : ℕ) (x : List ℕ) → b ≢ 10
    → remarks_from (inside read) (b ∷ x) ≡ remarks_from (inside (read ++ b ∷ [])) x
inside_byte read b x other =
    let ends : List Remark = remark read ∷ line_end ∷ remarks_from outside x in
    let goes_on : List Remark = remarks_from (inside (read ++ b ∷ [])) x in
    ap (λ t. let r : List Remark = if t then ends else goes_on in r) (ne_eqb b 10 other)

-- a comment goes on to the end of its line
inside_line : (read bs x : List ℕ) → AllByRecursion (λ b. b ≢ 10) bs → EndsLine x
    → remarks_from (inside read) (bs ++ x) ≡ remark (read ++ bs) ∷ remarks_from outside x
inside_line read [] [] all ends = ap (λ t. remark t ∷ []) (sym (append-nil read))
inside_line read [] (b ∷ x) all ends =
    subst (λ c. remarks_from (inside read) (c ∷ x) ≡ remark (read ++ []) ∷ remarks_from outside (c ∷ x)) (sym ends)
    (ap (λ t. remark t ∷ line_end ∷ remarks_from outside x) (sym (append-nil read)))
inside_line read (b ∷ bs) x all ends =
    inside_byte read b (bs ++ x) all.0 ∙ inside_line (read ++ b ∷ []) bs x all.1 ends
    ∙ ap (λ t. remark t ∷ remarks_from outside x) (append_assoc read (b ∷ []) bs)

line_ends : (rest : List ℕ) → BeginsOutside (λ b. b ≢ 10) rest → EndsLine rest
line_ends [] ends = tt
line_ends (b ∷ bs) ends = elim (eqb_tells b 10) [ inl same ↦ same.1 | inr other ↦ absurd (ends other.1) ]

-- ---- what stands there

-- what may follow: anything, or behind a comment the end of its line
abbrev pub Follows : Bool → List ℕ → Type 0
Follows false text = Unit {0}
Follows true text = EndsLine text

-- A token ends at the place, or the text begins there. Behind it stand these comments and newlines,
-- and then the rest.
pub record Stands (text : List ℕ) (place : ℕ) (rs : List Remark) (rest : List ℕ) : Type 0 where
  pub early : List ℕ
  pub gap : List ℕ
  pub in_comment : Bool
  pub text_is : text ≡ early ++ (gap ++ rest)
  pub place_is : place ≡ length early
  pub follows : Follows in_comment rest
  pub reads : (x : List ℕ) → Follows in_comment x
      → remarks_from outside (gap ++ x) ≡ rs ++ remarks_from outside x

pub starts : (text : List ℕ) → Stands text 0 [] text
starts text = record {
  early = [];
  gap = [];
  in_comment = false;
  text_is = refl;
  place_is = refl;
  follows = tt;
  reads = λ x follows. refl;
}

nothing_follows : (in_comment : Bool) → Follows in_comment []
nothing_follows true = tt
nothing_follows false = tt

noted_in : {text : List ℕ} {place : ℕ} {rs : List Remark} {rest : List ℕ} (s : Stands text place rs rest)
    → remarks_in s.gap ≡ rs
noted_in {text} {place} {rs} {rest} s =
    sym (ap remarks_in (append-nil s.gap)) ∙ s.reads [] (nothing_follows s.in_comment) ∙ append-nil rs

behind_place : {text : List ℕ} {place : ℕ} {rs : List Remark} {rest : List ℕ} (s : Stands text place rs rest)
    → drop place text ≡ s.gap ++ rest
behind_place {text} {place} {rs} {rest} s =
    (λ i. drop (s.place_is i) (s.text_is i)) ∙ drop-append_seam s.early (s.gap ++ rest)

-- at the end
pub noted_at_end : {text : List ℕ} {place : ℕ} {rs : List Remark} → Stands text place rs []
    → remarks_in (drop place text) ≡ rs
noted_at_end {text} {place} {rs} s = ap remarks_in (behind_place s ∙ append-nil s.gap) ∙ noted_in s

length_is : {text : List ℕ} {place : ℕ} {rs : List Remark} {rest : List ℕ} (s : Stands text place rs rest)
    → length text ≡ length s.early + (length s.gap + length rest)
length_is {text} {place} {rs} {rest} s =
    ap length s.text_is ∙ length-append s.early (s.gap ++ rest)
    ∙ ap (λ n. length s.early + n) (length-append s.gap rest)

-- before a token
pub noted_before : {text : List ℕ} {place : ℕ} {rs : List Remark} (rest : List ℕ) → Stands text place rs rest
    → remarks_in (bytes_between text place (length text - length rest)) ≡ rs
noted_before {text} {place} {rs} rest s =
    let long = length_is s in
    let place_is = s.place_is in
    let between : (length text - length rest) - place ≡ length s.gap = omega (arith, long, place_is) in
    ap remarks_in ((λ i. take (between i) (behind_place s i)) ∙ take-append_seam s.gap rest) ∙ noted_in s

-- ---- the token behind

-- what stands before the rest
abbrev front : {text : List ℕ} {place : ℕ} {rs : List Remark} {rest : List ℕ} → Stands text place rs rest → List ℕ
front s = s.early ++ s.gap

front_is : {text : List ℕ} {place : ℕ} {rs : List Remark} (rest : List ℕ) (s : Stands text place rs rest)
    → text ≡ front s ++ rest
front_is rest s = s.text_is ∙ sym (append_assoc s.early s.gap rest)

front_long : {text : List ℕ} {place : ℕ} {rs : List Remark} (rest : List ℕ) (s : Stands text place rs rest)
    → length text - length rest ≡ length (front s)
front_long rest s = let long = length_is s in rw (length-append s.early s.gap) (omega (arith, long))

behind_front : {text : List ℕ} {place : ℕ} {rs : List Remark} (rest : List ℕ) → Stands text place rs rest
    → drop (length text - length rest) text ≡ rest
behind_front rest s = (λ i. drop (front_long rest s i) (front_is rest s i)) ∙ drop-append_seam (front s) rest

pub spelled_at : {text : List ℕ} {place : ℕ} {rs : List Remark} (spelling rest : List ℕ)
    → Stands text place rs (spelling ++ rest)
    → spelling_at text (span_between (length text) (spelling ++ rest) rest) ≡ spelling
spelled_at {text} {place} {rs} spelling rest s =
    let long = length_is s in
    let whole = length-append spelling rest in
    let wide : (length text - length rest) - (length text - length (spelling ++ rest)) ≡ length spelling =
    omega (arith, long, whole) in
    (λ i. take (wide i) (behind_front (spelling ++ rest) s i)) ∙ take-append_seam spelling rest

pub begins_at : {text : List ℕ} {place : ℕ} {rs : List Remark} (b : ℕ) (rest : List ℕ)
    → Stands text place rs (b ∷ rest) → get_or text (length text - length (b ∷ rest)) 0 ≡ b
begins_at b rest s =
    (λ i. get_or (front_is (b ∷ rest) s i) (front_long (b ∷ rest) s i) 0) ∙ get_or-append_seam (front s) b rest 0

pub past_token : {text : List ℕ} {place : ℕ} {rs : List Remark} (spelling rest : List ℕ)
    → Stands text place rs (spelling ++ rest) → Stands text (length text - length rest) [] rest
past_token {text} {place} {rs} spelling rest s =
    let long = length_is s in
    let whole = length-append spelling rest in
    record {
      early = front s ++ spelling;
      gap = [];
      in_comment = false;
      text_is = front_is (spelling ++ rest) s ∙ sym (append_assoc (front s) spelling rest);
      place_is = rw (length-append (front s) spelling, length-append s.early s.gap) (omega (arith, long, whole));
      follows = tt;
      reads = λ x follows. refl;
    }

-- ---- over what is no token

passed : {text : List ℕ} {place : ℕ} {rs : List Remark} (spelling rest : List ℕ) (more : List Remark)
    (in_comment : Bool) (s : Stands text place rs (spelling ++ rest))
    → ((x : List ℕ) → Follows s.in_comment (spelling ++ x)) → Follows in_comment rest
    → ((x : List ℕ) → Follows in_comment x
    → remarks_from outside (spelling ++ x) ≡ more ++ remarks_from outside x)
    → Stands text place (rs ++ more) rest
passed {text} {place} {rs} spelling rest more in_comment s fits follows reads = record {
  early = s.early;
  gap = s.gap ++ spelling;
  in_comment = in_comment;
  text_is = s.text_is ∙ ap (λ t. s.early ++ t) (sym (append_assoc s.gap spelling rest));
  place_is = s.place_is;
  follows = follows;
  reads = λ x ends. ap (remarks_from outside) (append_assoc s.gap spelling x) ∙ s.reads (spelling ++ x) (fits x)
      ∙ ap (λ t. rs ++ t) (reads x ends) ∙ sym (append_assoc rs more (remarks_from outside x));
}

-- with another byte first no line ends there
apart : (in_comment : Bool) (b : ℕ) (x y : List ℕ) → b ≢ 10 → Follows in_comment (b ∷ x) → Follows in_comment (b ∷ y)
apart true b x y other follows = absurd (other follows)
apart false b x y other follows = tt

line_follows : (in_comment : Bool) (x : List ℕ) → Follows in_comment (10 ∷ x)
line_follows true x = refl
line_follows false x = tt

blanks_fit : (in_comment : Bool) (spelling rest x : List ℕ) → 0 < length spelling → AllByRecursion IsBlank spelling
    → Follows in_comment (spelling ++ rest) → Follows in_comment (spelling ++ x)
blanks_fit in_comment [] rest x some all follows = absurd (omega (arith, some))
blanks_fit in_comment (b ∷ bs) rest x some all follows =
    let blank = all.0 in
    apart in_comment b (bs ++ rest) (bs ++ x) (λ line. grind (arith, blank, line)) follows

pub over_blank : {text : List ℕ} {place : ℕ} {rs : List Remark} (spelling rest : List ℕ)
    → IsGap (spelling ++ rest) rest → Stands text place rs (spelling ++ rest) → Stands text place rs rest
over_blank {text} {place} {rs} spelling rest is s =
    let same : spelling ≡ is.gap = append_cancel_right spelling is.gap rest is.run.parts in
    let all = subst (AllByRecursion IsBlank) (sym same) is.run.passes in
    let some = subst (λ t. 0 < length t) (sym same) is.some in
    subst (λ r. Stands text place r rest) (append-nil rs)
    (passed spelling rest [] false s (λ x. blanks_fit s.in_comment spelling rest x some all s.follows) tt
    (λ x follows. over_blanks spelling x all))

pub over_newline : {text : List ℕ} {place : ℕ} {rs : List Remark} (rest : List ℕ) → Stands text place rs (10 ∷ rest)
    → Stands text place (rs ++ line_end ∷ []) rest
over_newline rest s =
    passed (10 ∷ []) rest (line_end ∷ []) false s (line_follows s.in_comment) tt (λ x follows. refl)

over_line : {text : List ℕ} {place : ℕ} {rs : List Remark} (line rest : List ℕ)
    → AllByRecursion (λ b. b ≢ 10) line → BeginsOutside (λ b. b ≢ 10) rest
    → Stands text place rs (35 ∷ (line ++ rest)) → Stands text place (rs ++ remark (35 ∷ line) ∷ []) rest
over_line line rest all ends s =
    passed (35 ∷ line) rest (remark (35 ∷ line) ∷ []) true s
    (λ x. apart s.in_comment 35 (line ++ rest) (line ++ x) (λ same. omega (arith, same)) s.follows)
    (line_ends rest ends) (λ x follows. inside_line (35 ∷ []) line x all follows)

pub over_comment : {text : List ℕ} {place : ℕ} {rs : List Remark} (spelling rest : List ℕ)
    → IsRemark (spelling ++ rest) rest → Stands text place rs (spelling ++ rest)
    → Stands text place (rs ++ remark spelling ∷ []) rest
over_comment {text} {place} {rs} spelling rest is s =
    let parts : spelling ++ rest ≡ 35 ∷ (is.remark ++ rest) = is.parts ∙ ap (λ t. 35 ∷ t) is.run.parts in
    let same : spelling ≡ 35 ∷ is.remark = append_cancel_right spelling (35 ∷ is.remark) rest parts in
    subst (λ t. Stands text place (rs ++ remark t ∷ []) rest) (sym same)
    (over_line is.remark rest is.run.passes is.run.ends (subst (Stands text place rs) parts s))
