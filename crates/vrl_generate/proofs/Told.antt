-- How the lines of a summary are joined.
use Rattle.std.proofs.Common.{◌≡◌, ℕ, List, [], ◌++◌, codes, append_assoc, refl}
use Rattle.sha2.specs.Sha256.{sha256}
use Rattle.hex.specs.Hex.{encode_lower}
use Rattle.vrl_batch.specs.declared.work.LineOut.{LineOut}
use Rattle.vrl_generate.specs.declared.summary.Summary.{Summary}
use Rattle.vrl_generate.specs.Summary.{would_write, told_line, count_line, summary_of, Counts}

-- seven texts, one put behind the other
joined : (a b c d e f g : List ℕ) → ((((((([] ++ a) ++ b) ++ c) ++ d) ++ e) ++ f) ++ g) ≡ a ++ (b ++ (c ++ (d ++ (e ++ (f ++ g)))))
joined a b c d e f g = simp append_assoc

-- a text to which seven were added
pub added : (a b c d e f g t0 t1 t2 t3 t4 t5 t6 t7 : List ℕ) → t0 ≡ [] → t1 ≡ t0 ++ a → t2 ≡ t1 ++ b → t3 ≡ t2 ++ c → t4 ≡ t3 ++ d → t5 ≡ t4 ++ e → t6 ≡ t5 ++ f → t7 ≡ t6 ++ g → t7 ≡ a ++ (b ++ (c ++ (d ++ (e ++ (f ++ g)))))
added a b c d e f g t0 t1 t2 t3 t4 t5 t6 t7 e0 e1 e2 e3 e4 e5 e6 e7 = rw (e7, e6, e5, e4, e3, e2, e1, e0) (joined a b c d e f g)

-- the seven lines, told by what a summary holds
pub told : (outs : List LineOut) (summary : Summary) (digest : List ℕ) → Counts outs summary → digest ≡ sha256 (would_write outs) →
    count_line (codes "lines") summary.lines
    ++ (count_line (codes "written") summary.written
    ++ (count_line (codes "errors") summary.errors
    ++ (count_line (codes "aborted") summary.aborted
    ++ (count_line (codes "refused") summary.refused
    ++ (count_line (codes "bytes") summary.bytes
    ++ told_line (codes "sha256") (encode_lower digest)))))) ≡ summary_of outs
told outs summary digest counts is = rw (counts.lines, counts.written, counts.errors, counts.aborted, counts.refused, counts.bytes, is) refl
