use Rattle.std.proofs.Common.{rules}
use Rattle.ft_format.proofs.Read.{header_again}
use Rattle.ft_view.proofs.tables.read_front.Goals as goal

pub of-end-requires : goal.of-end-requires
of-end-requires c = (header_again c.read-header.result c.in_ok-check_header.ensures).small

pub returns-clause-whole : goal.returns-clause-whole
returns-clause-whole c = record {
  small = (header_again c.read-header.result c.in_ok-check_header.ensures).small;
  whole = search rules;
}
