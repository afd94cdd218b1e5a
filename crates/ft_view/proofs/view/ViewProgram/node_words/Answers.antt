use Rattle.std.proofs.Common.{◌<◌, subst}
use Rattle.ft_view.proofs.CountedParts.{node_count, words_are}
use Rattle.ft_view.proofs.view.ViewProgram.node_words.Goals as goal

pub node_record-requires : goal.node_record-requires
node_record-requires c = subst (λ n. c.args.n < n) (node_count c.args.self.now) c.requires

pub returns : goal.returns
returns c = words_are c.args.self.now _ c.args.n c.words.result c.node_record.ensures.there
    c.node_record.ensures.written c.words.ensures
