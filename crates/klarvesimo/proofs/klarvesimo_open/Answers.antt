-- `klarvesimo::klarvesimo_open` saves the channel that opening gives. Assumes nothing.
use Rattle.klarvesimo.proofs.Calling.{opens}
use Rattle.klarvesimo.proofs.klarvesimo_open.Goals as goal

pub returns : goal.returns
returns c = opens c.args.name.now c.open_channel-opened.result _ c.open_channel-opened.ensures c.save_opened.ensures
