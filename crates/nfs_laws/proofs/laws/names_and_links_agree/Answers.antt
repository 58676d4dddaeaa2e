use Rattle.nfs_laws.proofs.LinksAgree.{links_agree}
use Rattle.nfs_laws.proofs.laws.names_and_links_agree.Goals as goal

pub returns : goal.returns
returns c = links_agree
