-- What the tokens before a place of a text and before that place of its layout have in common.
use Rattle.std.proofs.Common.{◌≡◌, refl, sym, ap, ◌∙◌, ℕ, Bool, true, false, ◌&&◌, ◌||◌, not, ◌⊎◌, inl, inr, if◌then◌else◌, List, [], ◌∷◌, ◌++◌, Option, Some, None}
use Rattle.std.proofs.lemmas.Bool.{true≢false}
use Rattle.std.specs.List.{list_any}
use Rattle.vrl_token.specs.declared.token.Token.{Token}
use Rattle.vrl_token.specs.declared.token.Token.TheVariants as token
use Rattle.vrl_token.specs.Brackets.{encloses, goes_on, goes_on_behind, joins_piece, open_behind, with_token}
use Rattle.vrl_format.specs.Apart.{is_edge_behind}
use Rattle.vrl_format.specs.Layout.{Gap, nothing, space, break, gap, is_closer, is_comment, is_end, is_newline, is_opener, is_start, has_empty_line, parts}
use Rattle.vrl_format.specs.Pieces.{Between, newline, semicolon, Sort, comment}
use Rattle.vrl_format.proofs.Tests.{any_more, or_all, or_nothing}
use Rattle.vrl_format.proofs.Elements.{Element, EndsNote, first_word, goes_on_last, line, note, parting_token, parts_here, stop, with_parting}

-- ---- the last token

-- a separator stands directly before
abbrev pub seen : List Token → Bool
seen [] = false
seen (token.Separator ∷ ts) = true
seen (t ∷ ts) = false

-- the last token that is no separator
abbrev pub last_other : List Token → Option Token
last_other [] = None
last_other (token.Separator ∷ ts) = last_other ts
last_other (t ∷ ts) = Some t

-- separators behind it stand at an edge
abbrev pub is_edge : Option Token → Bool
is_edge None = true
is_edge (Some t) = is_edge_behind t

abbrev goes_on_at : Option Token → Bool
goes_on_at None = false
goes_on_at (Some t) = goes_on t

last_goes_on : (ts : List Token) → goes_on_last ts ≡ goes_on_at (last_other ts)
last_goes_on [] = refl
last_goes_on (token.Separator ∷ ts) = last_goes_on ts
last_goes_on (t ∷ ts) = refl

-- ---- tests

pub and_left : (a b : Bool) → (a && b) ≡ true → a ≡ true
and_left true b is = refl
and_left false b is = absurd (true≢false (sym is))

pub and_right : (a b : Bool) → (a && b) ≡ true → b ≡ true
and_right true b is = is
and_right false b is = absurd (true≢false (sym is))

pub not_true : (a : Bool) → not a ≡ true → a ≡ false
not_true true is = absurd (true≢false (sym is))
not_true false is = refl

-- ---- a newline that parts items

-- the item doesn't go on behind the last token
pub parting_ends : (before : List Token) (es : List Element) → parts_here before es ≡ true → goes_on_last before ≡ false
parting_ends before es is =
    not_true (goes_on_last before) (and_left (not (goes_on_last before)) (not (first_word joins_piece es))
    (and_right (not (encloses (open_behind before))) (not (goes_on_last before) && not (first_word joins_piece es)) is))

-- ---- what stands in common

abbrev pub starts : Option Sort → Bool
starts None = true
starts (Some a) = is_start a

abbrev pub notes : Option Sort → Bool
notes None = false
notes (Some a) = is_comment a

-- The tokens before a place of the text, and those that the layout has written, where the last piece is
-- of this sort, this stands between it and the place, and these elements stand behind.
pub record Alike (last : Option Sort) (between : List Between) (before after : List Token) (es : List Element) : Type 0 where
  pub brackets : open_behind after ≡ open_behind before
  pub other : last_other after ≡ last_other before
  pub ends : goes_on_behind after ≡ goes_on_last after
  pub separators : is_edge (last_other before) ≡ false → seen before ≡ (seen after || list_any parts between)
  pub parted : list_any parts between ≡ true → parts_here before es ≡ true
  pub lines : list_any is_newline between ≡ true → parts_here before es ≡ true → list_any parts between ≡ true
  pub edge : starts last ≡ true → is_edge (last_other before) ≡ true
  pub noted : notes last ≡ true → (list_any is_newline between ≡ true) ⊎ EndsNote es

-- a newline parts items in the layout where one does in the text
pub same_goes : (before after : List Token) → last_other after ≡ last_other before → goes_on_last after ≡ goes_on_last before
same_goes before after other = last_goes_on after ∙ ap goes_on_at other ∙ sym (last_goes_on before)

-- ---- behind a newline

parting_brackets : (q : Bool) (ts : List Token) → open_behind (with_parting q ts) ≡ open_behind ts
parting_brackets true ts = refl
parting_brackets false ts = refl

parting_other : (q : Bool) (ts : List Token) → last_other (with_parting q ts) ≡ last_other ts
parting_other true ts = refl
parting_other false ts = refl

parting_parts : (q : Bool) (ts : List Token) (es : List Element) → parts_here (with_parting q ts) es ≡ parts_here ts es
parting_parts true ts es = refl
parting_parts false ts es = refl

parting_seen : (q seen_before seen_after any : Bool) (ts : List Token) → seen ts ≡ (seen_after || any)
    → seen (with_parting q ts) ≡ (seen_after || (any || q))
parting_seen true seen_before seen_after any ts is = sym (ap (λ t. seen_after || t) (or_all any) ∙ or_all seen_after)
parting_seen false seen_before seen_after any ts is = is ∙ ap (λ t. seen_after || t) (sym (or_nothing any))

pub alike_line : {last : Option Sort} {between : List Between} {before after : List Token} {es : List Element} (q : Bool)
    → q ≡ parts_here before es → Alike last between before after (line q ∷ es)
    → Alike last (between ++ newline q ∷ []) (with_parting q before) after es
alike_line {last} {between} {before} {after} {es} q is a = record {
  brackets = a.brackets ∙ sym (parting_brackets q before);
  other = a.other ∙ sym (parting_other q before);
  ends = a.ends;
  separators = λ inner. parting_seen q (seen before) (seen after) (list_any parts between) before (a.separators (ap is_edge (sym (parting_other q before)) ∙ inner))
      ∙ ap (λ t. seen after || t) (sym (any_more parts between (newline q)));
  parted = λ some. parting_parts q before es ∙ by_part q (list_any parts between) (sym (any_more parts between (newline q)) ∙ some) a.parted (sym is);
  lines = λ some here. any_more parts between (newline q) ∙ ap (λ t. list_any parts between || t) (is ∙ sym (parting_parts q before es) ∙ here) ∙ or_all (list_any parts between);
  edge = λ start. ap is_edge (parting_other q before) ∙ a.edge start;
  noted = λ behind. inl (any_more is_newline between (newline q) ∙ or_all (list_any is_newline between));
}
  where
    by_part : (q any : Bool) → (any || q) ≡ true → (any ≡ true → parts_here before es ≡ true) → parts_here before es ≡ q → parts_here before es ≡ true
    by_part q true some first second = first refl
    by_part q false some first second = second ∙ some

-- ---- behind a semicolon

pub alike_stop : {last : Option Sort} {between : List Between} {before after : List Token} {es : List Element}
    → parts_here before es ≡ true → Alike last between before after (stop ∷ es)
    → Alike last (between ++ semicolon ∷ []) (token.Separator ∷ before) after es
alike_stop {last} {between} {before} {after} {es} is a = record {
  brackets = a.brackets;
  other = a.other;
  ends = a.ends;
  separators = λ inner. sym (ap (λ t. seen after || t) parts_there ∙ or_all (seen after));
  parted = λ some. is;
  lines = λ some here. parts_there;
  edge = a.edge;
  noted = λ behind. later (a.noted behind);
}
  where
    parts_there : list_any parts (between ++ semicolon ∷ []) ≡ true
    parts_there = any_more parts between semicolon ∙ or_all (list_any parts between)

    later : (list_any is_newline between ≡ true) ⊎ EndsNote (stop ∷ es) → (list_any is_newline (between ++ semicolon ∷ []) ≡ true) ⊎ EndsNote es
    later (inl some) = inl (any_more is_newline between semicolon ∙ ap (λ t. t || false) some)
    later (inr none) = elim none [ ]

-- ---- behind what a gap writes

-- the tokens behind the newlines of a gap
abbrev pub gap_tokens : Gap → Bool → List Token → List Token
gap_tokens nothing q after = after
gap_tokens space q after = after
gap_tokens (break false) q after = with_token (parting_token q) after
gap_tokens (break true) q after = with_token (parting_token q) (with_token (parting_token q) after)

abbrev pub lead_tokens : Option Sort → List Between → Sort → Bool → List Token → List Token
lead_tokens None between s q after = after
lead_tokens (Some a) between s q after = gap_tokens (gap a between s) q after

abbrev is_break : Gap → Bool
is_break nothing = false
is_break space = false
is_break (break e) = true

pub gap_brackets : (g : Gap) (q : Bool) (after : List Token) → open_behind (gap_tokens g q after) ≡ open_behind after
gap_brackets nothing q after = refl
gap_brackets space q after = refl
gap_brackets (break false) true after = refl
gap_brackets (break false) false after = refl
gap_brackets (break true) true after = refl
gap_brackets (break true) false after = refl

pub gap_other : (g : Gap) (q : Bool) (after : List Token) → last_other (gap_tokens g q after) ≡ last_other after
gap_other nothing q after = refl
gap_other space q after = refl
gap_other (break false) true after = refl
gap_other (break false) false after = refl
gap_other (break true) true after = refl
gap_other (break true) false after = refl

gap_seen : (g : Gap) (q : Bool) (after : List Token) → seen (gap_tokens g q after) ≡ ((is_break g && q) || seen after)
gap_seen nothing q after = refl
gap_seen space q after = refl
gap_seen (break false) true after = refl
gap_seen (break false) false after = refl
gap_seen (break true) true after = refl
gap_seen (break true) false after = refl

-- where a separator is written the item has ended
pub gap_ends : (g : Gap) (q : Bool) (after : List Token) → (q ≡ true → goes_on_last after ≡ false)
    → goes_on_behind after ≡ goes_on_last after → goes_on_behind (gap_tokens g q after) ≡ goes_on_last (gap_tokens g q after)
gap_ends nothing q after parting ends = ends
gap_ends space q after parting ends = ends
gap_ends (break false) true after parting ends = sym (parting refl)
gap_ends (break false) false after parting ends = ends
gap_ends (break true) true after parting ends = sym (parting refl)
gap_ends (break true) false after parting ends = ends

-- away from edges a gap has a newline only where it says so
inner_break : (a : Sort) (between : List Between) (s : Sort) → is_start a ≡ false → is_end s ≡ false
    → is_break (gap a between s) ≡ (is_comment a || (list_any parts between || (is_comment s && list_any is_newline between)))
inner_break a between s start end = by (is_start a) (is_end s) (is_comment a || (list_any parts between || (is_comment s && list_any is_newline between))) (is_comment s) (is_opener a || is_closer s) (has_empty_line between) start end
  where
    by : (x y b c o e : Bool) → x ≡ false → y ≡ false → is_break (if x && y then nothing else if (x || y) || b then break (not (x || y) && e) else if c then space else if o then nothing else space) ≡ b
    by true y b c o e first second = absurd (true≢false first)
    by false true b c o e first second = absurd (true≢false second)
    by false false true c o e first second = refl
    by false false false true o e first second = refl
    by false false false false true e first second = refl
    by false false false false false e first second = refl

-- and then a separator stands in both, or in neither
same_separators : (after any newlines q behind before_remark : Bool) → (any ≡ true → q ≡ true) → (newlines ≡ true → q ≡ true → any ≡ true) → (behind ≡ true → newlines ≡ true)
    → (((behind || (any || (before_remark && newlines))) && q) || after) ≡ (after || any)
same_separators after true newlines q behind remark parted lines noted = by behind q (parted refl)
  where
    by : (behind q : Bool) → q ≡ true → (((behind || true) && q) || after) ≡ (after || true)
    by true q is = ap (λ t. t || after) is ∙ sym (or_all after)
    by false q is = ap (λ t. t || after) is ∙ sym (or_all after)
same_separators after false newlines false behind remark parted lines noted = by (behind || (false || (remark && newlines)))
  where
    by : (x : Bool) → ((x && false) || after) ≡ (after || false)
    by true = sym (or_nothing after)
    by false = sym (or_nothing after)
same_separators after false true true behind remark parted lines noted = absurd (true≢false (sym (lines refl refl)))
same_separators after false false true true remark parted lines noted = absurd (true≢false (sym (noted refl)))
same_separators after false false true false true parted lines noted = sym (or_nothing after)
same_separators after false false true false false parted lines noted = sym (or_nothing after)

abbrev EndsNoLine : List Element → Type 0
EndsNoLine es = EndsNote es → ⊥

pub led_alike : (last : Option Sort) (between : List Between) (before after : List Token) (es : List Element) (s : Sort)
    → Alike last between before after es → EndsNoLine es → is_edge (last_other before) ≡ false → is_end s ≡ false
    → seen before ≡ seen (lead_tokens last between s (parts_here before es) after)
led_alike None between before after es s a ends inner end = absurd (true≢false (sym (a.edge refl) ∙ inner))
led_alike (Some o) between before after es s a ends inner end =
    a.separators inner
    ∙ sym (same_separators (seen after) (list_any parts between) (list_any is_newline between) (parts_here before es) (is_comment o) (is_comment s) a.parted a.lines (λ behind. newline_there (a.noted behind)))
    ∙ ap (λ t. (t && parts_here before es) || seen after) (sym (inner_break o between s not_start end))
    ∙ sym (gap_seen (gap o between s) (parts_here before es) after)
  where
    newline_there : (list_any is_newline between ≡ true) ⊎ EndsNote es → list_any is_newline between ≡ true
    newline_there (inl some) = some
    newline_there (inr none) = absurd (ends none)

    by : (t : Bool) → is_start o ≡ t → t ≡ false
    by true is = absurd (true≢false (sym (a.edge is) ∙ inner))
    by false is = refl

    not_start : is_start o ≡ false
    not_start = by (is_start o) refl

-- ---- behind a piece

pub gap_alike : (last : Option Sort) (between : List Between) (before after : List Token) (es : List Element) (s : Sort)
    → Alike last between before after es
    → (open_behind (lead_tokens last between s (parts_here before es) after) ≡ open_behind before)
    × (last_other (lead_tokens last between s (parts_here before es) after) ≡ last_other before)
    × (goes_on_behind (lead_tokens last between s (parts_here before es) after)
    ≡ goes_on_last (lead_tokens last between s (parts_here before es) after))
gap_alike None between before after es s a = (a.brackets, a.other, a.ends)
gap_alike (Some o) between before after es s a = (
  gap_brackets (gap o between s) (parts_here before es) after ∙ a.brackets,
  gap_other (gap o between s) (parts_here before es) after ∙ a.other,
  gap_ends (gap o between s) (parts_here before es) after (λ parting. same_goes before after a.other ∙ parting_ends before es parting) a.ends,
)

-- nothing stands between yet
pub none_parts : {A : Type 0} → list_any parts [] ≡ true → A
none_parts is = absurd (true≢false (sym is))

pub none_lines : {A : Type 0} → list_any is_newline [] ≡ true → A
none_lines is = absurd (true≢false (sym is))

pub alike_note : {last : Option Sort} {between : List Between} {before after : List Token} {es : List Element} (x : List ℕ)
    → EndsNote es → Alike last between before after (note x ∷ es)
    → Alike (Some comment) [] before (lead_tokens last between comment (parts_here before es) after) es
alike_note {last} {between} {before} {after} {es} x ends a =
    let all = gap_alike last between before after (note x ∷ es) comment a in
    record {
      brackets = all.0;
      other = all.1;
      ends = all.2;
      separators = λ inner. led_alike last between before after (note x ∷ es) comment a (λ none. elim none [ ]) inner refl
          ∙ sym (or_nothing (seen (lead_tokens last between comment (parts_here before es) after)));
      parted = λ some. none_parts some;
      lines = λ some here. none_lines some;
      edge = λ start. absurd (true≢false (sym start));
      noted = λ behind. inr ends;
    }

-- before the first piece nothing is written
pub at_the_start : (es : List Element) → Alike None [] [] [] es
at_the_start es = record {
  brackets = refl;
  other = refl;
  ends = refl;
  separators = λ inner. refl;
  parted = λ some. none_parts some;
  lines = λ some here. none_lines some;
  edge = λ start. refl;
  noted = λ behind. absurd (true≢false (sym behind));
}
