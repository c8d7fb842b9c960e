pub mod SysHosts
