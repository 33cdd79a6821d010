mod Examples
