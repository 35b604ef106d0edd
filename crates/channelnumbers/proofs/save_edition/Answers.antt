-- `channelnumbers::save_edition` goes by the kind. Assumes nothing.
use Rattle.channelnumbers.proofs.save_edition.Goals as goal

pub returns-in-Synthesizer : goal.returns-in-Synthesizer
returns-in-Synthesizer c = rw c.in-Synthesizer.is c.save_three.ensures

pub returns-in-Recognizer : goal.returns-in-Recognizer
returns-in-Recognizer c = rw c.in-Recognizer.is c.save_three-in-Recognizer.ensures
