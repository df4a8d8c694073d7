use Rattle.block_replay.specs.Pages.{image_at}
use Rattle.block_replay.proofs.PageLemmas.{image-written}
use Rattle.block_replay.proofs.pages.write_image.Goals as goal

pub returns : goal.returns
returns c = image-written (image_at c.args.rec.now c.args.parts.now c.args.id) c.image_page.result c.args.bytes.now c.image_page.new.into c.requires.size c.image_page.ensures.some c.image_page.ensures.page
