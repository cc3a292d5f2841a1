-- Pieces between which stands what their layout puts there have that layout again.
use Rattle.std.proofs.Common.{◌≡◌, refl, sym, ap, ◌∙◌, ℕ, Bool, true, false, ◌&&◌, ◌||◌, not, if◌then◌else◌, List, [], ◌∷◌, ◌++◌}
use Rattle.std.proofs.lemmas.Bool.{true≢false}
use Rattle.std.specs.List.{list_any}
use Rattle.vrl_format.specs.Pieces.{Between, newline, Piece, Sort}
use Rattle.vrl_format.specs.Layout.{Gap, nothing, space, break, gap, gap_text, has_empty_line, is_closer, is_comment, is_end, is_newline, is_opener, is_start, layout, layout_behind, parts, blocks_at, blocks_behind}

-- what a gap leaves between two pieces, where its newlines part items or don't
abbrev pub left_by : Gap → Bool → List Between
left_by nothing q = []
left_by space q = []
left_by (break false) q = newline q ∷ []
left_by (break true) q = newline q ∷ newline q ∷ []

-- The second piece is the first with what its layout leaves before it. A newline parts items there
-- where a separator stood.
pub record Settles (a : Sort) (p r : Piece) : Type 0 where
  pub parting : Bool
  pub between : r.between ≡ left_by (gap a p.between p.sort) parting
  pub parts_still : list_any parts p.between ≡ true → parting ≡ true
  pub same_sort : r.sort ≡ p.sort
  pub same_spelling : r.spelling ≡ p.spelling

abbrev pub AreSettled : Sort → List Piece → List Piece → Type 0
AreSettled a [] [] = Unit {0}
AreSettled a (p ∷ ps) (r ∷ rs) = Settles a p r × AreSettled p.sort ps rs
AreSettled a ps rs = ⊥

-- what stands before the first piece plays no part
abbrev pub ArePieces : List Piece → List Piece → Type 0
ArePieces [] [] = Unit {0}
ArePieces (p ∷ ps) (r ∷ rs) = (r.sort ≡ p.sort) × (r.spelling ≡ p.spelling) × AreSettled p.sort ps rs
ArePieces ps rs = ⊥

-- what stands in a gap, by what is asked of it in order
abbrev chosen : Bool → Bool → Bool → Bool → Bool → Bool → Bool → Bool → Gap
chosen start ends behind parted before broken empty tight =
    if start && ends then nothing
    else if (start || ends) || (behind || (parted || (before && broken))) then break (not (start || ends) && empty)
    else if before then space
    else if tight then nothing
    else space

abbrev chosen_again : Bool → Bool → Bool → Bool → Bool → List Between → Gap
chosen_again start ends behind before tight between =
    chosen start ends behind (list_any parts between) before (list_any is_newline between) (has_empty_line between) tight

stays : (start ends behind parted before broken empty tight q : Bool) → (parted ≡ true → q ≡ true)
    → chosen_again start ends behind before tight (left_by (chosen start ends behind parted before broken empty tight) q)
    ≡ chosen start ends behind parted before broken empty tight
stays true true behind parted before broken empty tight q still = refl
stays true false behind parted before broken empty tight q still = refl
stays false true behind parted before broken empty tight q still = refl
stays false false true parted before broken true tight q still = refl
stays false false true parted before broken false tight q still = refl
stays false false false true before broken empty tight false still = absurd (true≢false (sym (still refl)))
stays false false false true before broken true tight true still = refl
stays false false false true before broken false tight true still = refl
stays false false false false true true true tight true still = refl
stays false false false false true true true tight false still = refl
stays false false false false true true false tight true still = refl
stays false false false false true true false tight false still = refl
stays false false false false true false empty tight q still = refl
stays false false false false false broken empty true q still = refl
stays false false false false false broken empty false q still = refl

gap_stays : (a : Sort) (p r : Piece) → Settles a p r → gap a r.between r.sort ≡ gap a p.between p.sort
gap_stays a p r settles =
    (λ i. gap a (settles.between i) (settles.same_sort i))
    ∙ stays (is_start a) (is_end p.sort) (is_comment a) (list_any parts p.between) (is_comment p.sort)
    (list_any is_newline p.between) (has_empty_line p.between) (is_opener a || is_closer p.sort) settles.parting settles.parts_still

behind_stays : (a : Sort) (blocks : ℕ) (ps rs : List Piece) → AreSettled a ps rs → layout_behind a blocks rs ≡ layout_behind a blocks ps
behind_stays a blocks [] [] settled = refl
behind_stays a blocks [] (r ∷ rs) settled = elim settled [ ]
behind_stays a blocks (p ∷ ps) [] settled = elim settled [ ]
behind_stays a blocks (p ∷ ps) (r ∷ rs) (first, others) =
    (λ i. gap_text (gap_stays a p r first i) (blocks_at (first.same_sort i) blocks)
    ++ (first.same_spelling i ++ layout_behind (first.same_sort i) (blocks_behind (first.same_sort i) blocks) rs))
    ∙ ap (λ behind. gap_text (gap a p.between p.sort) (blocks_at p.sort blocks) ++ (p.spelling ++ behind))
    (behind_stays p.sort (blocks_behind p.sort blocks) ps rs others)

-- settled pieces have the layout of the pieces that they were settled of
pub settled_stay : (ps rs : List Piece) → ArePieces ps rs → layout rs ≡ layout ps
settled_stay [] [] are = refl
settled_stay [] (r ∷ rs) are = elim are [ ]
settled_stay (p ∷ ps) [] are = elim are [ ]
settled_stay (p ∷ ps) (r ∷ rs) (same_sort, same_spelling, others) =
    (λ i. same_spelling i ++ layout_behind (same_sort i) (blocks_behind (same_sort i) 0) rs)
    ∙ ap (λ behind. p.spelling ++ behind) (behind_stays p.sort (blocks_behind p.sort 0) ps rs others)
