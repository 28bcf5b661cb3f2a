-- The text is put behind the six bytes, and the end behind the text.
use Rattle.std.proofs.Common.{◌≡◌, refl, arith, ◌+◌, ◌/◌, ◌%◌, [], ◌∷◌, length}
use Rattle.lines.proofs.Theorems.RoundTrip.{length_line}
use Rattle.lines.specs.Writing.{bytes_of}
use Rattle.lines.specs.Engine.Texts.{text_bytes}
use Rattle.lines.specs.Engine.Writes.{headed}
use Rattle.lines.proofs.Writes.{put_more, put_end}
use Rattle.lines.proofs.write.write_line.Goals as goal

pub put_bytes-requires : goal.put_bytes-requires
put_bytes-requires c = omega (arith, length_line (headed c.args.head (text_bytes c.args.text.now)))

pub put_text-requires : goal.put_text-requires
put_text-requires c = omega (arith, length_line (headed c.args.head (text_bytes c.args.text.now)))

pub bounds-out-end : goal.bounds-out-end
bounds-out-end c = omega (arith, length_line (headed c.args.head (text_bytes c.args.text.now)))

pub returns : goal.returns
unfolding bytes_of
returns c =
    let a = c.args in
    let h = a.head in
    let t = text_bytes a.text.now in
    let n = headed h t in
    let six = h.depth ∷ (h.kind ∷ (h.mark ∷ (h.number / 256 ∷ (h.number % 256 ∷ (length t ∷ []))))) in
    let high : h.number / 256 % 256 ≡ h.number / 256 = omega arith in
    let front = rw (c.len-n.ensures, c.to_be_bytes.ensures, high) at c.put_bytes.ensures in
    let line = put_more a.out.now a.pos six t front (a.pos + 12) refl c.put_text.ensures in
    record { lines = put_end n a.out.now a.pos line _ (omega arith) c.requires; behind = omega (arith, length_line n) }
