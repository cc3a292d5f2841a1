use Rattle.std.proofs.Common.{sym}
use Rattle.fn_codec.proofs.base64_code.DecodeBase64Decode.bytes.Goals as goal

pub returns : goal.returns
returns c = rw (sym c.as_bytes.ensures.value) (c.read.ensures.read c.as_bytes.result.now c.decode.ensures.ok c.decode.ensures.err)
