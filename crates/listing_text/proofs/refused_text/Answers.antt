use Rattle.theory_calls.specs.Listing.{refused_text}
use Rattle.listing_text.specs.Mirror.{line_of}
use Rattle.file_writer.proofs.WriteLaws.{put_filled}
use Rattle.listing_text.proofs.refused_text.Goals as goal

pub returns : goal.returns
unfolding refused_text line_of
returns c = let e = put_filled _ _ _ _ (c.put_line.ensures.text_after, c.put_line.ensures.value) in record { text_after = e.0; value = e.1 }
